pub mod Values
pub mod WindowSteps
pub mod TileTurns
pub mod Edges
pub mod FirstTurn
pub mod TileSteps
pub mod Shown
pub mod Frames
pub mod Changes
pub mod Touches
pub mod Along
pub mod Operands
pub mod Touching
pub mod Turning
pub mod Placing
pub mod Leaving
pub mod Asking
pub mod Running
pub mod Stepping
pub mod Positions
pub mod Plans
pub mod Listed
pub mod Calls
pub mod LoopPlaces
pub mod Sums
pub mod Falling
pub mod Making
pub mod Nests
pub mod LoopCalls
pub mod LoopLeaving
pub mod Stills
pub mod Kept
pub mod LoopPutting
pub mod Slots
pub mod Assignments
pub mod States
pub mod Touched
pub mod Workspaces
pub mod Reading
pub mod Following
pub mod Putting
pub mod Operating
pub mod Holding
mod Bodies
mod LinkLaws
mod LinkTurns
mod BodyBlocks
mod LinkSteps
pub mod ChainRows
pub mod FlatRows
mod TermSums
mod ScaledLoops
mod TermTurns
mod TermPlaces
mod ScaledStates
mod TermLeaving
mod TermSteps
mod TermOperandsOf
mod TermCombining
pub mod MergedRows
