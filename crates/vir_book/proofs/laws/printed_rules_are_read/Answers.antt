use Rattle.vir_book.proofs.RoundTrip.{book_of-definition}
use Rattle.vir_book.proofs.laws.printed_rules_are_read.Goals as goal

pub returns : goal.returns
returns c = λ w t named free short within. book_of-definition w t named free short within
