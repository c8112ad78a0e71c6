-- The names and the numbers of the faults of a text.
use Rattle.std.specs.Prelude.{ℕ, List, codes}
use Rattle.crush_text.specs.declared.fault.TextFaultKind.{TextFaultKind}
use Rattle.crush_text.specs.declared.fault.TextFaultKind.TheVariants.{BadWord, Ended, Unexpected, BadNumber, BadWeight, DuplicateId, DuplicateName, UnknownType, UnknownItem, SecondParent, OtherAlgorithm, LeftOut, UnknownBucketInRule, TooMany, SumTooLarge, OutOfMemory}

-- the name of the fault, as it is printed
abbrev pub fault_name : TextFaultKind → List ℕ
fault_name BadWord = codes "BadWord"
fault_name Ended = codes "Ended"
fault_name Unexpected = codes "Unexpected"
fault_name BadNumber = codes "BadNumber"
fault_name BadWeight = codes "BadWeight"
fault_name DuplicateId = codes "DuplicateId"
fault_name DuplicateName = codes "DuplicateName"
fault_name UnknownType = codes "UnknownType"
fault_name UnknownItem = codes "UnknownItem"
fault_name SecondParent = codes "SecondParent"
fault_name OtherAlgorithm = codes "OtherAlgorithm"
fault_name LeftOut = codes "LeftOut"
fault_name UnknownBucketInRule = codes "UnknownBucketInRule"
fault_name TooMany = codes "TooMany"
fault_name SumTooLarge = codes "SumTooLarge"
fault_name OutOfMemory = codes "OutOfMemory"

-- the number of the fault; if a word has several faults, the fault with the smallest number is reported
abbrev pub fault_number : TextFaultKind → ℕ
fault_number BadWord = 1
fault_number Ended = 2
fault_number Unexpected = 3
fault_number BadNumber = 4
fault_number BadWeight = 5
fault_number DuplicateId = 6
fault_number DuplicateName = 7
fault_number UnknownType = 8
fault_number UnknownItem = 9
fault_number SecondParent = 10
fault_number OtherAlgorithm = 11
fault_number LeftOut = 12
fault_number UnknownBucketInRule = 13
fault_number TooMany = 14
fault_number SumTooLarge = 15
fault_number OutOfMemory = 16
