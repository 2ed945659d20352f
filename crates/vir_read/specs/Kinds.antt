-- The names of the kinds of faults.
use Rattle.std.specs.Prelude.{ℕ, List, codes}
use Rattle.vir_read.specs.declared.text_fault.TextKind.{TextKind}
use Rattle.vir_read.specs.declared.text_fault.TextKind.TheVariants.{BadByte, Unexpected, UnknownName}
use Rattle.vir_read.specs.declared.text_fault.TextKind.TheVariants.{WrongCountOfArguments, WrongSort, BadNumber}
use Rattle.vir_read.specs.declared.text_fault.TextKind.TheVariants.{RepeatedInOrder, TooDeep, TooLarge, TextTooLong}
use Rattle.vir_read.specs.declared.text_fault.TextKind.TheVariants.{NameTwice, EmptyBook, BadHeader, UnknownRule}
use Rattle.vir_read.specs.declared.text_fault.TextKind.TheVariants.{TrailingText}

-- the name of a kind
abbrev pub kind_name : TextKind → List ℕ
kind_name BadByte = codes "BadByte"
kind_name Unexpected = codes "Unexpected"
kind_name UnknownName = codes "UnknownName"
kind_name WrongCountOfArguments = codes "WrongCountOfArguments"
kind_name WrongSort = codes "WrongSort"
kind_name BadNumber = codes "BadNumber"
kind_name RepeatedInOrder = codes "RepeatedInOrder"
kind_name TooDeep = codes "TooDeep"
kind_name TooLarge = codes "TooLarge"
kind_name TextTooLong = codes "TextTooLong"
kind_name NameTwice = codes "NameTwice"
kind_name EmptyBook = codes "EmptyBook"
kind_name BadHeader = codes "BadHeader"
kind_name UnknownRule = codes "UnknownRule"
kind_name TrailingText = codes "TrailingText"
