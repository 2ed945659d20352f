use Rattle.std.proofs.Common.{rules, ◌≡◌, ◌<◌, length, arith}
use Rattle.std.proofs.lemmas.Bool.Decides.{nat_tests}
use borrow.Author.Tests.{tests}
use Rattle.std.proofs.lemmas.Iterator.{YieldsList-from_slice}
use Rattle.std.proofs.lemmas.Iterator.Search.{all_from_yields_List}
use Rattle.std.specs.Char.{is_ascii_digit}
use Rattle.std.specs.List.{list_all}
use Rattle.vir_words.proofs.WordLemmas.{number_by_bytes}
use Rattle.vir_words.proofs.word_number.is_number.Goals as goal

pub returns-then-not-is_empty : goal.returns-then-not-is_empty
returns-then-not-is_empty c =
    let bytes : c.all.result ≡ list_all is_ascii_digit c.args.word.now =
    all_from_yields_List is_ascii_digit _ _ _ c.all.ensures.ran (YieldsList-from_slice c.args.word.now cc)
    (λ x b q k. search (rules, tests)) in
    let some : 0 < length c.args.word.now = grind (arith, nat_tests) in
    number_by_bytes c.args.word.now c.all.result some bytes
