-- How the program ends where a page file is not opened, or not written anew.
use Rattle.bp_page.specs.declared.refusals.Refusal.TheVariants.{OutOfMemory}
use Rattle.bp_page.specs.declared.refusals.PortFault.TheVariants.{Device, Memory, WrongPage}
use Rattle.bp_ports.specs.declared.files.OpenFault.{OpenFault}
use Rattle.bp_ports.specs.declared.files.OpenFault.TheVariants.{Refused, Port}
use Rattle.bp_ports.specs.declared.migration.MigrateFault.{MigrateFault}
use Rattle.bp_ports.specs.declared.migration.MigrateFault.TheVariants as migrate_fault
use Rattle.bp_cli.specs.declared.ending.Ending.{Ending}
use Rattle.bp_cli.specs.declared.ending.Ending.TheVariants as ending
use Rattle.bp_cli.specs.declared.stop.Stop.{Stop}

-- this holds of how the program ends, whatever the reason
abbrev pub Ends : (Ending → Type 0) → Stop → Type 0
Ends cause stop = cause stop.ending

abbrev pub ending_of : OpenFault → Ending
ending_of (Refused refusal) = ending.PageFileRefused refusal
ending_of (Port Device) = ending.PageFileNotOpened
ending_of (Port WrongPage) = ending.PageFileNotOpened
ending_of (Port Memory) = ending.PageFileRefused OutOfMemory

-- the old file is not read, the new one not written, or there is no memory
abbrev pub ending_of_fault : MigrateFault → Ending
ending_of_fault migrate_fault.Read = ending.PageFileNotOpened
ending_of_fault migrate_fault.Write = ending.OutputFailed
ending_of_fault migrate_fault.Memory = ending.PageFileRefused OutOfMemory
