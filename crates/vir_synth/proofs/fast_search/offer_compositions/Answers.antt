use Rattle.std.proofs.Common.{List, ℕ, length, map, subst, ◌-◌, ◌<◌, arith}
use Rattle.vir_term.specs.Tree.{rev, par, loop, exactly}
use Rattle.vir_synth.specs.Terms.{splits, compositions}
use Rattle.vir_synth.specs.Tables.{terms_of, Adds}
use Rattle.vir_synth.specs.Searches.{kept_at, AreSigned}
use Rattle.vir_synth.proofs.Searching.{ok_then, compositions_offered, signed_in}
use Rattle.vir_synth.proofs.fast_search.offer_compositions.Goals as goal

pub returns : goal.returns
returns c = ok_then ((numbers : List ℕ) → AreSigned numbers c.args.sizes.now
    → Adds numbers (splits par (kept_at c.args.sizes.now) 1 (length c.args.sizes.now - 1)) c.offer_splits.new.table
    c.offer_splits-2.new.table)
    ((numbers : List ℕ) → AreSigned numbers c.args.sizes.now
    → Adds numbers (compositions (kept_at c.args.sizes.now) (length c.args.sizes.now)) c.args.table.now
    c.offer_splits-2.new.table)
    c.offer_splits-2.result c.offer_splits-2.ensures
    (λ pars numbers signed.
    (let last : length c.args.sizes.now - 1 < length c.args.sizes.now = omega arith in
    compositions_offered numbers c.args.sizes.now c.index-sizes-sizes.result c.args.table.now c.offer_each.new.self
    c.offer_each-2.new.self c.offer_splits.new.table c.offer_splits-2.new.table c.requires c.index-sizes-sizes.is
    (subst (λ xs. Adds numbers (map rev (terms_of xs)) c.args.table.now c.offer_each.new.self) c.deref.ensures.value
    (c.in_ok-offer_each.ensures numbers (signed_in numbers c.args.sizes.now (length c.args.sizes.now - 1)
    c.index-sizes-sizes.result c.deref.result.now last c.index-sizes-sizes.is c.deref.ensures.value signed)))
    (subst (λ xs. Adds numbers (map (loop (exactly 1)) (terms_of xs)) c.offer_each.new.self c.offer_each-2.new.self)
    c.deref-2.ensures.value
    (c.in_ok-offer_each-2.ensures numbers (signed_in numbers c.args.sizes.now (length c.args.sizes.now - 1)
    c.index-sizes-sizes.result c.deref-2.result.now last c.index-sizes-sizes.is c.deref-2.ensures.value signed)))
    (c.in_ok-offer_splits.ensures numbers signed) (pars numbers signed)))
