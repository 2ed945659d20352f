use Rattle.vir_book.proofs.RoundTrip.{book_of-text}
use Rattle.vir_book.proofs.laws.printed_books_are_read.Goals as goal

pub returns : goal.returns
returns c = λ e rest definable short. book_of-text e rest definable short
