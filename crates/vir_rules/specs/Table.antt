-- The table of rules. Each row has the name of its rule; what it concludes: a property and the shape of a term t that
-- then has it, or a pairing of two terms that are then disjoint; and its premises in their order. A rule's number is
-- that of its row, from 1. The letters of a row on one term are t, its first part m, its second part n, and a number
-- k. Those of a row on a pairing are the first part m of the term that is composed, and the other term u.
--
-- One row read aloud:
--
--     rule (codes "defers-seq-both") (Has defers_k seq) (Of defers_k m ∷ Of defers_k n ∷ []) ∷
--
--   `rule`                      there is a rule
--   `codes "defers-seq-both"`   of this name. In reports and certificates it goes by that, and laws go by its number
--   `Has defers_k seq`          that concludes `defers(k)`, for any number k, of a sequence t, which is `seq(m,n)`,
--   `Of defers_k m ∷`           where `defers(k)` is derivable of m, for the same k,
--   `Of defers_k n ∷ []`        and of n.
--   `∷`                         The next row follows.
--
-- `Of elim_1 t` is a premise on t itself. `Disj m n` is one that m and n are disjoint. `Apart seq_left` concludes that
-- a sequence on the left and u on the right are disjoint, and `Disj m u` asks this of the first part and u.
-- `module_of KeepingSome` is any module of that family: `specs/Families.antt` says which these are.
-- `specs/Premises.antt` has in definitions how a row is read.
use Rattle.std.specs.Prelude.{ℕ, List, [], ◌∷◌, codes}
use Rattle.vir_term.specs.declared.prop.Prop.TheVariants as prop
use Rattle.vir_rules.specs.declared.row.Wanted.{Wanted}
use Rattle.vir_rules.specs.declared.row.Wanted.TheVariants.{Is, DefersK as defers_k, RejectsK as rejects_k}
use Rattle.vir_rules.specs.declared.row.Family.TheVariants.{ElectingNobody, ElectingAll, ElectingSome, KeepingSome}
use Rattle.vir_rules.specs.declared.row.Family.TheVariants.{Dropping, Unscored, Leading, Eliminating, Winning}
use Rattle.vir_rules.specs.declared.row.Family.TheVariants.{Progressing, Deferring, Unordered}
use Rattle.vir_rules.specs.declared.row.Shape.TheVariants.{Any as any, ModuleOf as module_of, PassK as pass_k}
use Rattle.vir_rules.specs.declared.row.Shape.TheVariants.{DropK as drop_k, Rev as rev, Seq as seq, Par as par}
use Rattle.vir_rules.specs.declared.row.Shape.TheVariants.{Loop as loop, LoopK as loop_k, LoopOne as loop_1}
use Rattle.vir_rules.specs.declared.row.Shape.TheVariants.{Until as until, UntilK as until_k, UntilOne as until_1}
use Rattle.vir_rules.specs.declared.row.Pairing.TheVariants.{PassDrop as pass_and_drop, DropPass as drop_and_pass}
use Rattle.vir_rules.specs.declared.row.Pairing.TheVariants.{SeqLeft as seq_left, SeqRight as seq_right}
use Rattle.vir_rules.specs.declared.row.Pairing.TheVariants.{RevLeft as rev_left, RevRight as rev_right}
use Rattle.vir_rules.specs.declared.row.Conclusion.{Conclusion}
use Rattle.vir_rules.specs.declared.row.Conclusion.TheVariants.{Has, Apart}
use Rattle.vir_rules.specs.declared.row.Part.TheVariants.{M as m, N as n, T as t, U as u}
use Rattle.vir_rules.specs.declared.row.Need.{Need}
use Rattle.vir_rules.specs.declared.row.Need.TheVariants.{Of, Disj}

-- a rule: its name, what it concludes, and its premises
pub record Rule : Type 0 where
  pub name : List ℕ
  pub conclusion : Conclusion
  pub premises : List Need

-- the rule that is so called, concludes this and has these premises
abbrev pub rule : List ℕ → Conclusion → List Need → Rule
rule name conclusion premises = record { name = name; conclusion = conclusion; premises = premises }

-- the properties that the rows name
abbrev ne : Wanted
ne = Is prop.Ne

abbrev ea : Wanted
ea = Is prop.Ea

abbrev el : Wanted
el = Is prop.El

abbrev nb : Wanted
nb = Is prop.Nb

abbrev decr : Wanted
decr = Is prop.Decr

abbrev dli : Wanted
dli = Is prop.Dli

abbrev imono : Wanted
imono = Is prop.Imono

abbrev dimono : Wanted
dimono = Is prop.Dimono

abbrev dmono : Wanted
dmono = Is prop.Dmono

abbrev mono : Wanted
mono = Is prop.Mono

abbrev cc : Wanted
cc = Is prop.Cc

abbrev dcc : Wanted
dcc = Is prop.Dcc

abbrev cprog : Wanted
cprog = Is prop.Cprog

abbrev ccomp : Wanted
ccomp = Is prop.Ccomp

abbrev neut : Wanted
neut = Is prop.Neut

abbrev defers_1 : Wanted
defers_1 = Is (prop.Defers 1)

abbrev rejects_1 : Wanted
rejects_1 = Is (prop.Rejects 1)

abbrev rejects_2 : Wanted
rejects_2 = Is (prop.Rejects 2)

abbrev elim_1 : Wanted
elim_1 = Is (prop.Elim 1)

-- the rules, in their order
unfoldable pub table : List Rule
table =
    rule (codes "ne-leaf") (Has ne (module_of ElectingNobody)) [] ∷
    rule (codes "ne-rev") (Has ne rev) [] ∷
    rule (codes "ne-seq") (Has ne seq) (Of ne m ∷ Of ne n ∷ []) ∷
    rule (codes "ne-par") (Has ne par) (Of ne m ∷ Of ne n ∷ []) ∷
    rule (codes "ne-loop") (Has ne loop) (Of ne m ∷ []) ∷
    rule (codes "ea-leaf") (Has ea (module_of ElectingAll)) [] ∷
    rule (codes "ea-seq") (Has ea seq) (Of ea m ∷ []) ∷
    rule (codes "ea-par-left") (Has ea par) (Of ea m ∷ []) ∷
    rule (codes "ea-par-right") (Has ea par) (Of ea n ∷ []) ∷
    rule (codes "el-leaf") (Has el (module_of ElectingSome)) [] ∷
    rule (codes "el-seq-first") (Has el seq) (Of el m ∷ []) ∷
    rule (codes "el-seq-second") (Has el seq) (Of nb m ∷ Of el n ∷ []) ∷
    rule (codes "el-par-left") (Has el par) (Of el m ∷ []) ∷
    rule (codes "el-par-right") (Has el par) (Of el n ∷ []) ∷
    rule (codes "el-ea") (Has el any) (Of ea t ∷ []) ∷
    rule (codes "defers-leaf") (Has defers_k pass_k) [] ∷
    rule (codes "defers-seq-one") (Has defers_1 seq) (Of ne m ∷ Of nb m ∷ Of defers_1 n ∷ []) ∷
    rule (codes "defers-seq-both") (Has defers_k seq) (Of defers_k m ∷ Of defers_k n ∷ []) ∷
    rule (codes "defers-loop-elim") (Has defers_k loop_k) (Of elim_1 m ∷ Of ne m ∷ []) ∷
    rule (codes "defers-loop-one") (Has defers_1 loop_1) (Of ne m ∷ Of nb m ∷ Of decr m ∷ []) ∷
    rule (codes "rejects-leaf") (Has rejects_k drop_k) [] ∷
    rule (codes "elim-par-left") (Has elim_1 par) (Of ne m ∷ Of defers_1 m ∷ Of rejects_2 n ∷ Disj m n ∷ []) ∷
    rule (codes "elim-par-right") (Has elim_1 par) (Of ne n ∷ Of defers_1 n ∷ Of rejects_2 m ∷ Disj m n ∷ []) ∷
    rule (codes "nb-leaf") (Has nb (module_of KeepingSome)) [] ∷
    rule (codes "nb-rev") (Has nb rev) (Of el m ∷ []) ∷
    rule (codes "nb-seq") (Has nb seq) (Of nb m ∷ Of nb n ∷ []) ∷
    rule (codes "nb-par-left") (Has nb par) (Of nb m ∷ []) ∷
    rule (codes "nb-par-right") (Has nb par) (Of nb n ∷ []) ∷
    rule (codes "nb-loop") (Has nb loop) (Of nb m ∷ []) ∷
    rule (codes "nb-el") (Has nb any) (Of el t ∷ []) ∷
    rule (codes "nb-defers") (Has nb any) (Of ne t ∷ Of defers_1 t ∷ []) ∷
    rule (codes "decr-leaf") (Has decr (module_of Dropping)) [] ∷
    rule (codes "decr-seq") (Has decr seq) (Of decr m ∷ []) ∷
    rule (codes "decr-elim") (Has decr any) (Of elim_1 t ∷ []) ∷
    rule (codes "decr-rejects") (Has decr any) (Of rejects_1 t ∷ []) ∷
    rule (codes "decr-defers") (Has decr any) (Of ne t ∷ Of defers_1 t ∷ []) ∷
    rule (codes "dli-leaf") (Has dli (module_of Unscored)) [] ∷
    rule (codes "dli-seq-both") (Has dli seq) (Of dli m ∷ Of dli n ∷ []) ∷
    rule (codes "dli-seq-one") (Has dli seq) (Of dimono m ∷ Of ne n ∷ Of defers_1 n ∷ Of dmono n ∷ []) ∷
    rule (codes "dli-par") (Has dli par) (Disj m n ∷ Of dli m ∷ Of dli n ∷ []) ∷
    rule (codes "dli-loop") (Has dli loop) (Of dli m ∷ []) ∷
    rule (codes "imono-leaf") (Has imono (module_of ElectingSome)) [] ∷
    rule (codes "dimono-leaf") (Has dimono (module_of Leading)) [] ∷
    rule (codes "dimono-rev") (Has dimono rev) (Of imono m ∷ []) ∷
    rule (codes "dimono-dli") (Has dimono any) (Of dli t ∷ Of ne t ∷ []) ∷
    rule (codes "dmono-leaf") (Has dmono (module_of Eliminating)) [] ∷
    rule (codes "dmono-rev") (Has dmono rev) (Of mono m ∷ []) ∷
    rule (codes "dmono-par") (Has dmono par) (Of ne m ∷ Of ne n ∷ Of dmono m ∷ Of dmono n ∷ []) ∷
    rule (codes "dmono-dli") (Has dmono any) (Of dli t ∷ []) ∷
    rule (codes "dmono-dimono") (Has dmono any) (Of dimono t ∷ []) ∷
    rule (codes "mono-seq-defers") (Has mono seq) (Of dli m ∷ Of ne m ∷ Of defers_1 m ∷ Of el n ∷ []) ∷
    rule (codes "mono-seq-ea") (Has mono seq) (Of ne m ∷ Of dmono m ∷ Of ea n ∷ []) ∷
    rule (codes "mono-par") (Has mono par) (Of mono m ∷ Of mono n ∷ []) ∷
    rule (codes "mono-ne") (Has mono any) (Of ne t ∷ []) ∷
    rule (codes "mono-ea") (Has mono any) (Of ea t ∷ []) ∷
    rule (codes "mono-imono") (Has mono any) (Of imono t ∷ []) ∷
    rule (codes "cc-seq-first") (Has cc seq) (Of cc m ∷ []) ∷
    rule (codes "cc-seq-dcc") (Has cc seq) (Of dcc m ∷ Of el n ∷ []) ∷
    rule (codes "cc-seq-ccomp") (Has cc seq) (Of ccomp m ∷ Of ne m ∷ Of cc n ∷ []) ∷
    rule (codes "cc-par") (Has cc par) (Of cc m ∷ Of cc n ∷ []) ∷
    rule (codes "dcc-leaf") (Has dcc (module_of Winning)) [] ∷
    rule (codes "dcc-rev") (Has dcc rev) (Of cc m ∷ []) ∷
    rule (codes "dcc-seq-ccomp") (Has dcc seq) (Of ccomp m ∷ Of ne m ∷ Of dcc n ∷ []) ∷
    rule (codes "dcc-seq-first") (Has dcc seq) (Of dcc m ∷ Of ne n ∷ Of nb n ∷ []) ∷
    rule (codes "dcc-par") (Has dcc par) (Of dcc m ∷ Of dcc n ∷ []) ∷
    rule (codes "dcc-loop") (Has dcc loop_1) (Of cprog m ∷ []) ∷
    rule (codes "cprog-leaf") (Has cprog (module_of Progressing)) [] ∷
    rule (codes "cprog-seq-first") (Has cprog seq) (Of cprog m ∷ Of ccomp n ∷ Of ne n ∷ []) ∷
    rule (codes "cprog-seq-second") (Has cprog seq) (Of ccomp m ∷ Of ne m ∷ Of cprog n ∷ []) ∷
    rule (codes "cprog-dcc") (Has cprog any) (Of dcc t ∷ []) ∷
    rule (codes "ccomp-leaf") (Has ccomp (module_of Deferring)) [] ∷
    rule (codes "ccomp-seq") (Has ccomp seq) (Of ccomp m ∷ Of ccomp n ∷ []) ∷
    rule (codes "ccomp-par") (Has ccomp par) (Of ne m ∷ Of ne n ∷ Of ccomp m ∷ Of ccomp n ∷ []) ∷
    rule (codes "ccomp-loop") (Has ccomp loop) (Of ccomp m ∷ []) ∷
    rule (codes "ccomp-cprog") (Has ccomp any) (Of cprog t ∷ []) ∷
    rule (codes "ccomp-cc") (Has ccomp any) (Of cc t ∷ []) ∷
    rule (codes "disj-pass-drop") (Apart pass_and_drop) [] ∷
    rule (codes "disj-drop-pass") (Apart drop_and_pass) [] ∷
    rule (codes "disj-seq-left") (Apart seq_left) (Disj m u ∷ []) ∷
    rule (codes "disj-seq-right") (Apart seq_right) (Disj u m ∷ []) ∷
    rule (codes "disj-rev-left") (Apart rev_left) (Disj m u ∷ []) ∷
    rule (codes "disj-rev-right") (Apart rev_right) (Disj u m ∷ []) ∷
    rule (codes "neut-leaf") (Has neut (module_of Unordered)) [] ∷
    rule (codes "neut-rev") (Has neut rev) (Of neut m ∷ []) ∷
    rule (codes "neut-seq") (Has neut seq) (Of neut m ∷ Of neut n ∷ []) ∷
    rule (codes "neut-par") (Has neut par) (Of neut m ∷ Of neut n ∷ []) ∷
    rule (codes "neut-loop") (Has neut loop) (Of neut m ∷ []) ∷
    rule (codes "neut-until") (Has neut until) (Of neut m ∷ []) ∷
    rule (codes "ne-until") (Has ne until) (Of ne m ∷ []) ∷
    rule (codes "defers-until-elim") (Has defers_k until_k) (Of elim_1 m ∷ Of ne m ∷ []) ∷
    rule (codes "defers-until-one") (Has defers_1 until_1) (Of ne m ∷ Of nb m ∷ Of decr m ∷ []) ∷
    rule (codes "nb-until") (Has nb until) (Of nb m ∷ []) ∷
    rule (codes "dli-until") (Has dli until) (Of dli m ∷ []) ∷
    rule (codes "dcc-until") (Has dcc until_1) (Of cprog m ∷ []) ∷
    rule (codes "ccomp-until") (Has ccomp until) (Of ccomp m ∷ []) ∷
    []
