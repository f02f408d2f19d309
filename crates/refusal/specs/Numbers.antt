-- The number of every refusal. The place that the unsound ring's refusal carries is no part of its number.
use Rattle.std.specs.Prelude.{ℕ}
use Rattle.refusal.specs.declared.reason.Refusal.{Refusal}
use Rattle.refusal.specs.declared.reason.Refusal.TheVariants.{Beyond, Unsettled, Dark, NoMemory, BadSize, NoGroundMark, BadHeader, UnsoundRing, Mounted, NotMounted, AlreadyOpen, NotOpen, NoSuchRecord, TooManyRecords, RingFull, ForeignUnit, ColumnOrRow, Level, NameLength, NameByte}

abbrev pub number_of : Refusal → ℕ
number_of Beyond = 1
number_of Unsettled = 2
number_of Dark = 5
number_of NoMemory = 9
number_of BadSize = 10
number_of NoGroundMark = 11
number_of BadHeader = 12
number_of (UnsoundRing place) = 13
number_of Mounted = 20
number_of NotMounted = 21
number_of AlreadyOpen = 22
number_of NotOpen = 23
number_of NoSuchRecord = 31
number_of TooManyRecords = 32
number_of RingFull = 33
number_of ForeignUnit = 34
number_of ColumnOrRow = 40
number_of Level = 41
number_of NameLength = 42
number_of NameByte = 43
