-- The definitions that contracts of what is lent cite, each under the name that it has below.
-- Pages and refusals.
pub use Rattle.bp_page.specs.Limits
pub use Rattle.bp_page.specs.Refusals
pub use Rattle.bp_page.specs.declared.refusals.Refusal
-- What a trail says, and which are legal.
pub use Rattle.bp_trail.specs.Parameters
pub use Rattle.bp_trail.specs.Event
pub use Rattle.bp_trail.specs.Trail
pub use Rattle.bp_trail.specs.Clock
pub use Rattle.bp_trail.specs.Passes
pub use Rattle.bp_trail.specs.Saved
pub use Rattle.bp_trail.specs.Legal
pub use Rattle.bp_trail.specs.Pieces
pub use Rattle.bp_trail.specs.HeldPasses
pub use Rattle.bp_trail.specs.Ends
pub use Rattle.bp_trail.specs.Recovery
-- What the calls of a core answer and leave, which pages are unsaved, and what is counted.
pub use Rattle.bp_core.specs.CoreView
pub use Rattle.bp_core.specs.Outcomes
pub use Rattle.bp_core.specs.Unsaved
pub use Rattle.bp_core.specs.Counts
pub use Rattle.bp_core.specs.Added
pub use Rattle.bp_core.specs.Work
-- What a keeper keeps of a trail.
pub use Rattle.bp_keeper.specs.Kept
-- Ports, page files, drivers, and a pool for one owner.
pub use Rattle.bp_ports.specs.Ports
pub use Rattle.bp_ports.specs.Files
pub use Rattle.bp_ports.specs.WholeFiles
pub use Rattle.bp_device.specs.Drivers
pub use Rattle.bp_device.specs.Owned
-- Shared pools, and runs of workers.
pub use Rattle.bp_session_log.specs.Turns
pub use Rattle.bp_shared.specs.Sessions
pub use Rattle.bp_shared.specs.Taking
pub use Rattle.bp_shared.specs.Telling
pub use Rattle.bp_shared.specs.Keeping
pub use Rattle.bp_shared.specs.Writing
pub use Rattle.bp_shared.specs.FlushAll
pub use Rattle.bp_workers.specs.Workers
pub use Rattle.bp_workers.specs.Sharing
pub use Rattle.bp_workers.specs.Runs
pub use Rattle.bp_workers.specs.Logs
pub use Rattle.bp_workers.specs.Tries
