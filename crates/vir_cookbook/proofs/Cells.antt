-- What holds of the cookbook's rules, a cell of the map each.
use Rattle.std.proofs.Common.{refl, arith}
use Rattle.vir_term.specs.declared.leaf.Leaf.TheVariants as module_of
use Rattle.vir_term.specs.declared.prop.Prop.TheVariants.{El, Dli, Imono, Dmono, Mono}
use Rattle.vir_term.specs.declared.score.Score.TheVariants.{Borda, Copeland, Minimax, Condorcet, Plurality}
use Rattle.vir_term.specs.Tree.{Tree, leaf, seq, loop, exactly, at_most}
use Rattle.vir_mean.specs.Meaning.{mean}
use Rattle.vir_mean.specs.Properties.{Holds}
use Rattle.vir_mean.proofs.MeaningLaws.{mean-split}
use Rattle.vir_sound.proofs.ElectingLaws.{ne_loop, ne_leaf, el_leaf, el_seq_second}
use Rattle.vir_sound.proofs.KeepingLaws.{nb_leaf}
use Rattle.vir_sound.proofs.LiftLeaves.{dimono_leaf, imono_leaf}
use Rattle.vir_sound.proofs.LiftRevisions.{mono_imono}
use Rattle.vir_cookbook.specs.Cookbook as rule
use Rattle.vir_known.specs.Deciding.{DefersNobody}
use Rattle.vir_known.proofs.NobodyLeft.{agree_back}
use Rattle.vir_known.proofs.TreeLaws as law

-- ---- who is left
electing_leaves_nobody : (m : Tree) → DefersNobody (mean (seq m (leaf module_of.Elect)))
electing_leaves_nobody = law.electing_leaves_nobody

borda_leaves_nobody : DefersNobody (mean rule.borda)
borda_leaves_nobody = electing_leaves_nobody (leaf (module_of.Max Borda))

black_leaves_nobody : DefersNobody (mean rule.black)
black_leaves_nobody = law.nobody_left_by_seq (leaf (module_of.Max Condorcet)) rule.borda borda_leaves_nobody

copeland_then_borda_leaves_nobody : DefersNobody (mean rule.copeland_then_borda)
copeland_then_borda_leaves_nobody = law.nobody_left_by_seq (leaf (module_of.Max Copeland)) rule.borda
    borda_leaves_nobody

shortlist_leaves_nobody : DefersNobody (mean rule.shortlist)
shortlist_leaves_nobody = law.nobody_left_by_par (seq (leaf (module_of.Max Plurality)) (leaf module_of.Elect))
    rule.borda (electing_leaves_nobody (leaf (module_of.Max Plurality))) borda_leaves_nobody

runoff_leaves_nobody : DefersNobody (mean rule.two_candidate_runoff)
runoff_leaves_nobody = law.nobody_left_by_seq (loop (exactly 2) (leaf (module_of.Min Plurality)))
    (leaf module_of.Plurality) law.modules_leave_nobody.1

dli_electing : (m : Tree) → Holds Dli (mean (seq m (leaf module_of.Elect)))
dli_electing m = law.dli_of_nobody (seq m (leaf module_of.Elect)) (electing_leaves_nobody m)

dmono_electing : (m : Tree) → Holds Dmono (mean (seq m (leaf module_of.Elect)))
dmono_electing m = law.dmono_of_nobody (seq m (leaf module_of.Elect)) (electing_leaves_nobody m)

pub dli_baldwin : Holds Dli (mean rule.baldwin)
dli_baldwin = dli_electing rule.baldwin_rounds

pub dmono_baldwin : Holds Dmono (mean rule.baldwin)
dmono_baldwin = dmono_electing rule.baldwin_rounds

pub dli_benham : Holds Dli (mean rule.benham)
dli_benham = dli_electing rule.benham_rounds

pub dmono_benham : Holds Dmono (mean rule.benham)
dmono_benham = dmono_electing rule.benham_rounds

pub dli_borda : Holds Dli (mean rule.borda)
dli_borda = dli_electing (leaf (module_of.Max Borda))

pub dmono_borda : Holds Dmono (mean rule.borda)
dmono_borda = dmono_electing (leaf (module_of.Max Borda))

pub dli_copeland : Holds Dli (mean rule.copeland)
dli_copeland = dli_electing (leaf (module_of.Max Copeland))

pub dmono_copeland : Holds Dmono (mean rule.copeland)
dmono_copeland = dmono_electing (leaf (module_of.Max Copeland))

pub dli_copeland_then_borda : Holds Dli (mean rule.copeland_then_borda)
dli_copeland_then_borda = law.dli_of_nobody rule.copeland_then_borda copeland_then_borda_leaves_nobody

pub dmono_copeland_then_borda : Holds Dmono (mean rule.copeland_then_borda)
dmono_copeland_then_borda = law.dmono_of_nobody rule.copeland_then_borda copeland_then_borda_leaves_nobody

pub dli_instant_runoff : Holds Dli (mean rule.instant_runoff)
dli_instant_runoff = dli_electing rule.instant_runoff_rounds

pub dmono_instant_runoff : Holds Dmono (mean rule.instant_runoff)
dmono_instant_runoff = dmono_electing rule.instant_runoff_rounds

pub dli_minimax : Holds Dli (mean rule.minimax)
dli_minimax = dli_electing (leaf (module_of.Max Minimax))

pub dmono_minimax : Holds Dmono (mean rule.minimax)
dmono_minimax = dmono_electing (leaf (module_of.Max Minimax))

pub dli_nanson_schwartz : Holds Dli (mean rule.nanson_schwartz)
dli_nanson_schwartz = dli_electing rule.nanson_schwartz_rounds

pub dmono_nanson_schwartz : Holds Dmono (mean rule.nanson_schwartz)
dmono_nanson_schwartz = dmono_electing rule.nanson_schwartz_rounds

pub dli_nanson : Holds Dli (mean rule.nanson)
dli_nanson = dli_electing rule.nanson_rounds

pub dmono_nanson : Holds Dmono (mean rule.nanson)
dmono_nanson = dmono_electing rule.nanson_rounds

pub dli_raynaud : Holds Dli (mean rule.raynaud)
dli_raynaud = dli_electing rule.raynaud_rounds

pub dmono_raynaud : Holds Dmono (mean rule.raynaud)
dmono_raynaud = dmono_electing rule.raynaud_rounds

pub dli_black : Holds Dli (mean rule.black)
dli_black = law.dli_of_nobody rule.black black_leaves_nobody

pub dmono_black : Holds Dmono (mean rule.black)
dmono_black = law.dmono_of_nobody rule.black black_leaves_nobody

pub dli_shortlist : Holds Dli (mean rule.shortlist)
dli_shortlist = law.dli_of_nobody rule.shortlist shortlist_leaves_nobody

pub dmono_shortlist : Holds Dmono (mean rule.shortlist)
dmono_shortlist = law.dmono_of_nobody rule.shortlist shortlist_leaves_nobody

pub dli_two_candidate_runoff : Holds Dli (mean rule.two_candidate_runoff)
dli_two_candidate_runoff = law.dli_of_nobody rule.two_candidate_runoff runoff_leaves_nobody

pub dmono_two_candidate_runoff : Holds Dmono (mean rule.two_candidate_runoff)
dmono_two_candidate_runoff = law.dmono_of_nobody rule.two_candidate_runoff runoff_leaves_nobody

-- ---- leaders
pub imono_borda : Holds Imono (mean rule.borda)
imono_borda = law.imono_leaders Borda refl

pub imono_copeland : Holds Imono (mean rule.copeland)
imono_copeland = law.imono_leaders Copeland refl

el_borda : Holds El (mean rule.borda)
el_borda = el_seq_second _ _ (mean-split (leaf (module_of.Max Borda))) (mean-split (leaf module_of.Elect))
    (nb_leaf (module_of.Max Borda) tt refl) (el_leaf module_of.Elect tt refl)

pub imono_black : Holds Imono (mean rule.black)
imono_black = law.imono_of_seq (leaf (module_of.Max Condorcet)) rule.borda (dimono_leaf (module_of.Max Condorcet) refl)
    (law.imono_leaders Borda refl) el_borda

pub mono_black : Holds Mono (mean rule.black)
mono_black = mono_imono (mean rule.black) (mean-split rule.black) imono_black

pub imono_copeland_then_borda : Holds Imono (mean rule.copeland_then_borda)
imono_copeland_then_borda = law.imono_of_seq (leaf (module_of.Max Copeland)) rule.borda
    (dimono_leaf (module_of.Max Copeland) refl) (law.imono_leaders Borda refl) el_borda

pub mono_copeland_then_borda : Holds Mono (mean rule.copeland_then_borda)
mono_copeland_then_borda = mono_imono (mean rule.copeland_then_borda) (mean-split rule.copeland_then_borda)
    imono_copeland_then_borda

-- ---- the same rule
imono_plurality : Holds Imono (mean rule.plurality)
imono_plurality = imono_leaf module_of.Plurality refl

pub imono_plurality_then_elect : Holds Imono (mean rule.plurality_then_elect)
imono_plurality_then_elect = law.agreeing_rules_share_properties rule.plurality rule.plurality_then_elect
    (agree_back (mean rule.plurality_then_elect) (mean rule.plurality)
    (law.rest_changes_nothing rule.plurality (leaf module_of.Elect) law.modules_leave_nobody.1)) Imono imono_plurality

pub mono_plurality_then_elect : Holds Mono (mean rule.plurality_then_elect)
mono_plurality_then_elect = mono_imono (mean rule.plurality_then_elect) (mean-split rule.plurality_then_elect)
    imono_plurality_then_elect

-- ---- nobody is elected
pub imono_shortlist_of_two : Holds Imono (mean rule.shortlist_of_two)
imono_shortlist_of_two = law.imono_of_ne rule.shortlist_of_two
    (ne_loop (at_most 2) (mean (leaf (module_of.Min Plurality))) (omega arith)
    (mean-split (leaf (module_of.Min Plurality))) (ne_leaf (module_of.Min Plurality) tt refl))
