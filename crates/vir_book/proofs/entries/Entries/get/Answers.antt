use Rattle.std.proofs.Common.{◌∙◌, ap, option_map}
use Rattle.vir_book.proofs.LookupLemmas.{option_map-copied, lookup-entries}
use Rattle.vir_book.proofs.entries.Entries.get.Goals as goal

pub returns : goal.returns
returns g c =
    let meaning = g.T.KeptTerm.meaning in
    option_map-copied meaning c.get.result ∙ ap (option_map meaning) c.get.ensures.value
    ∙ lookup-entries meaning c.args.name.now c.args.self.now.map.entries
