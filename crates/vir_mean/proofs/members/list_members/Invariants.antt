use Rattle.std.proofs.Common.{◌≡◌, ◌≤◌, take}
use Rattle.vir_altset.specs.Sets.{limit}
use Rattle.vir_altset.specs.Members.{members_up_to}
use Rattle.vir_mean.proofs.members.list_members.Given as goal

abbrev pub invariant-loop-turn : goal.invariant-loop-turn
invariant-loop-turn l = record {
  few : l.count ≤ l.last;
  turns : l._turn ≤ l.count;
  within : l.last ≤ limit;
  listed : take l.count l.list ≡ members_up_to l.last l.domain;
}
