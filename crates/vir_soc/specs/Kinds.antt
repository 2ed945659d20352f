-- The numbers and the names of the kinds of faults.
use Rattle.std.specs.Prelude.{ℕ, List, codes}
use Rattle.vir_soc.specs.declared.kind.SocKind.{SocKind}
use Rattle.vir_soc.specs.declared.kind.SocKind.TheVariants.{BadNumber, NoAlternativeCount, TooManyAlternatives}
use Rattle.vir_soc.specs.declared.kind.SocKind.TheVariants.{WrongType, BadCount, NoColon, BadEntry, OutOfRange}
use Rattle.vir_soc.specs.declared.kind.SocKind.TheVariants.{Repeated, Short, Tie, TooManyOrders, TooManyVoters}
use Rattle.vir_soc.specs.declared.kind.SocKind.TheVariants.{VotersDiffer, OrdersDiffer, FileTooLong, CountDiffers}

-- the name of a kind
abbrev pub kind_name : SocKind → List ℕ
kind_name BadNumber = codes "BadNumber"
kind_name NoAlternativeCount = codes "NoAlternativeCount"
kind_name TooManyAlternatives = codes "TooManyAlternatives"
kind_name WrongType = codes "WrongType"
kind_name BadCount = codes "BadCount"
kind_name NoColon = codes "NoColon"
kind_name BadEntry = codes "BadEntry"
kind_name OutOfRange = codes "OutOfRange"
kind_name Repeated = codes "Repeated"
kind_name Short = codes "Short"
kind_name Tie = codes "Tie"
kind_name TooManyOrders = codes "TooManyOrders"
kind_name TooManyVoters = codes "TooManyVoters"
kind_name VotersDiffer = codes "VotersDiffer"
kind_name OrdersDiffer = codes "OrdersDiffer"
kind_name FileTooLong = codes "FileTooLong"
kind_name CountDiffers = codes "CountDiffers"

-- the number of a kind
abbrev pub kind_number : SocKind → ℕ
kind_number BadNumber = 1
kind_number NoAlternativeCount = 2
kind_number TooManyAlternatives = 3
kind_number WrongType = 4
kind_number BadCount = 5
kind_number NoColon = 6
kind_number BadEntry = 7
kind_number OutOfRange = 8
kind_number Repeated = 9
kind_number Short = 10
kind_number Tie = 11
kind_number TooManyOrders = 12
kind_number TooManyVoters = 13
kind_number VotersDiffer = 14
kind_number OrdersDiffer = 15
kind_number FileTooLong = 16
kind_number CountDiffers = 17
