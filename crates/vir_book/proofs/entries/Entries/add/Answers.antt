use Rattle.std.proofs.Common.{ℕ, ◌∙◌, ap, map, [], ◌∷◌, nat_eq}
use Rattle.std.proofs.lemmas.List.{map-append}
use Rattle.std.specs.Cmp.Lexicographic.{pointwise}
use Rattle.std.specs.declared.alloc.Global.{Global}
use Rattle.std.specs.declared.vec.Vec.{Vec}
use Rattle.vir_book.specs.Entries.{as_entry}
use Rattle.vir_book.proofs.LookupLemmas.{lookup-entries, absent}
use Rattle.indexmap.proofs.CallerLemmas.{insert_entry-new}
use Rattle.vir_book.proofs.entries.Entries.add.Goals as goal

pub returns-in-Ok : goal.returns-in-Ok
returns-in-Ok g c =
    let meaning = g.T.KeptTerm.meaning in
    let none = absent meaning _ (lookup-entries meaning c.args.name.items c.args.self.now.map.entries ∙ c.requires) in
    ap (map (as_entry meaning)) (c.in-Ok.ensures.entries ∙ insert_entry-new (λ (a b : Vec ℕ Global). pointwise nat_eq
    a.items b.items) c.args.self.now.map c.args.name c.args.term none)
    ∙ map-append (as_entry meaning) c.args.self.now.map.entries ((c.args.name, c.args.term) ∷ [])
