use Rattle.std.proofs.Common.{◌≡◌, ◌++◌, ◌-◌, length, map, subst}
use Rattle.vir_term.specs.Tree.{rev, par, loop, exactly}
use Rattle.vir_synth.specs.Terms.{splits, compositions}
use Rattle.vir_synth.specs.Lists.{trees, terms_at}
use Rattle.vir_synth.proofs.Searching.{ok_then}
use Rattle.vir_synth.proofs.Listing.{compositions_pushed}
use Rattle.vir_synth.proofs.term_lists.push_compositions.Goals as goal

pub returns : goal.returns
returns c = ok_then (trees c.push_splits-2.new.list.items ≡ trees c.push_splits.new.list.items
    ++ splits par (terms_at c.args.sizes.now) 1 (length c.args.sizes.now - 1)) (trees c.push_splits-2.new.list.items
    ≡ trees c.args.list.now.items ++ compositions (terms_at c.args.sizes.now) (length c.args.sizes.now))
    c.push_splits-2.result c.push_splits-2.ensures
    (λ pars. compositions_pushed c.args.sizes.now c.index-sizes-sizes.result (trees c.args.list.now.items)
    (trees c.push_each.new.list.items) (trees c.push_each-2.new.list.items) (trees c.push_splits.new.list.items)
    (trees c.push_splits-2.new.list.items) c.requires c.index-sizes-sizes.is
    (subst (λ xs. trees c.push_each.new.list.items ≡ trees c.args.list.now.items ++ map rev (trees xs))
    c.deref.ensures.value c.in_ok-push_each.ensures)
    (subst (λ xs. trees c.push_each-2.new.list.items ≡ trees c.push_each.new.list.items ++ map (loop (exactly 1))
    (trees xs)) c.deref-2.ensures.value c.in_ok-push_each-2.ensures)
    c.in_ok-push_splits.ensures pars)
