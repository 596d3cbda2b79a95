-- The number of each refusal, and how far one wants the log.
use Rattle.std.specs.Prelude.{ℕ, Option, Some, None}
use Rattle.bp_page.specs.declared.refusals.Refusal.{Refusal}
use Rattle.bp_page.specs.declared.refusals.Refusal.TheVariants.{BadGeometry, BadSettings, BadLength, NoVictim, NeedLog, Busy, UnknownPass, UnknownTicket, ReadFailed, WriteFailed, WrongPage, TrailFull, ClockFull, OutOfMemory, RingFull, Disagree, Pinned, BadClient, OutOfPage}

abbrev pub number_of : Refusal → ℕ
number_of BadGeometry = 1
number_of BadSettings = 2
number_of BadLength = 3
number_of NoVictim = 11
number_of (NeedLog lsn) = 12
number_of Busy = 13
number_of UnknownPass = 14
number_of UnknownTicket = 16
number_of ReadFailed = 17
number_of WriteFailed = 18
number_of WrongPage = 19
number_of TrailFull = 20
number_of ClockFull = 21
number_of OutOfMemory = 22
number_of RingFull = 23
number_of Disagree = 24
number_of Pinned = 25
number_of BadClient = 41
number_of OutOfPage = 45

-- the LSN up to which the log must be durable before the call is made again
abbrev pub needed_by : Refusal → Option ℕ
needed_by (NeedLog lsn) = Some lsn
needed_by _ = None
