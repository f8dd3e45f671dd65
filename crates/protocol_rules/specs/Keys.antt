-- Keys of maps, of numbers and digests, and when two are the same.
use Rattle.std.specs.Prelude.{ℕ, Bool, ◌&&◌, List, nat_eq}
use Rattle.std.specs.Str.{bytes_eq}

abbrev pub same_pair : ℕ × ℕ → ℕ × ℕ → Bool
same_pair x y = nat_eq x.0 y.0 && nat_eq x.1 y.1

-- two numbers that a vote is for (a view and a number, or a request's master and its number), a digest, and who voted
abbrev pub Vote : Type 0
Vote = ℕ × ℕ × List ℕ × ℕ

abbrev pub same_vote : Vote → Vote → Bool
same_vote x y = ((nat_eq x.0 y.0 && nat_eq x.1 y.1) && bytes_eq x.2 y.2) && nat_eq x.3 y.3

-- an actor, the number of a kind of words, and two of a word's own numbers
abbrev pub Key : Type 0
Key = ℕ × ℕ × ℕ × ℕ

abbrev pub same_key : Key → Key → Bool
same_key x y = ((nat_eq x.0 y.0 && nat_eq x.1 y.1) && nat_eq x.2 y.2) && nat_eq x.3 y.3
