pub mod KeyLists
