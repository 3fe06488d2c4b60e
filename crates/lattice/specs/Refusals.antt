-- The refusals' numbers and words in replies (defined by this product).
use Rattle.std.specs.Prelude.{ℕ, List, codes}
use Rattle.lattice.specs.declared.refusal.Refusal.{Refusal}
use Rattle.lattice.specs.declared.refusal.Refusal.TheVariants.{BadLine, BadName, BadLength, TileThere, NoTile, Full, Outside, Void, NothingVoid, BadHeight, BadDepth, BadBox, Repeated, TooDeep, SinkThere, SinksFull, NoSink, Device, NoMemory, Failed, Damaged, Worn, NotAStore, Version, BadSide, BadCapacity, TooSmall, NotOld}

abbrev pub number_of : Refusal → ℕ
number_of BadLine = 1
number_of BadName = 2
number_of BadLength = 3
number_of TileThere = 4
number_of NoTile = 5
number_of Full = 6
number_of Outside = 7
number_of Void = 8
number_of NothingVoid = 9
number_of BadHeight = 10
number_of BadDepth = 11
number_of BadBox = 12
number_of Repeated = 13
number_of TooDeep = 14
number_of SinkThere = 15
number_of SinksFull = 16
number_of NoSink = 17
number_of Device = 20
number_of NoMemory = 21
number_of Failed = 22
number_of Damaged = 23
number_of Worn = 24
number_of NotAStore = 30
number_of Version = 31
number_of BadSide = 32
number_of BadCapacity = 33
number_of TooSmall = 34
number_of NotOld = 35

-- the word in ASCII
abbrev pub word_of : Refusal → List ℕ
word_of BadLine = codes "BadLine"
word_of BadName = codes "BadName"
word_of BadLength = codes "BadLength"
word_of TileThere = codes "TileThere"
word_of NoTile = codes "NoTile"
word_of Full = codes "Full"
word_of Outside = codes "Outside"
word_of Void = codes "Void"
word_of NothingVoid = codes "NothingVoid"
word_of BadHeight = codes "BadHeight"
word_of BadDepth = codes "BadDepth"
word_of BadBox = codes "BadBox"
word_of Repeated = codes "Repeated"
word_of TooDeep = codes "TooDeep"
word_of SinkThere = codes "SinkThere"
word_of SinksFull = codes "SinksFull"
word_of NoSink = codes "NoSink"
word_of Device = codes "Device"
word_of NoMemory = codes "NoMemory"
word_of Failed = codes "Failed"
word_of Damaged = codes "Damaged"
word_of Worn = codes "Worn"
word_of NotAStore = codes "NotAStore"
word_of Version = codes "Version"
word_of BadSide = codes "BadSide"
word_of BadCapacity = codes "BadCapacity"
word_of TooSmall = codes "TooSmall"
word_of NotOld = codes "NotOld"
