-- Over a core with one owner.
pub mod ClientPasses
pub mod GivingBack
pub mod HeldSlots
pub mod PieceSteps
pub mod Removing
pub mod RowCauses
pub mod RowsWork
pub mod ScriptSteps
-- By client threads.
pub mod Headline
pub mod Pieces
pub mod Ruling
pub mod Stepping
pub mod Holding
pub mod Following
pub mod Bounding
pub mod Once
pub mod Adding
pub mod Making
pub mod Playing
pub mod Refusing
