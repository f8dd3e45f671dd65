-- Behind the laws of agreement, lowest first: places in lists and histories, what masters know and say and whom a
-- frame's parts come from, then the induction over views by which committed orders are one, and from it executions,
-- blame and vouchers.
pub mod QuorumsMeet
pub mod Places
pub mod KnownAsItGrows
pub mod SpokenByKind
pub mod FramesInside
pub mod LearnedWasSaid
pub mod LearnedInPlace
pub mod TextsTellAll
pub mod SaidOnce
pub mod RequestsAgree
pub mod ExecutedInTurn
pub mod QuorumsStay
pub mod PlannedRows
pub mod ViewsInTurn
pub mod CommittedStays
pub mod QuorumsAreBacked
pub mod OrdersAgree
pub mod ExecutionsAgree
pub mod UpdatesAreTaken
pub mod SaidOneWay
pub mod VouchedIsOrdered
pub mod DoneIsVouched
