use Rattle.std.proofs.Common.{◌≡◌, drop}
use Rattle.vir_rules.specs.Named.{first_named, prop_named}
use Rattle.vir_rules.proofs.prop_name.PropName.named.Given as goal

-- the names that are left tell what all of them do
abbrev pub invariant-loop-name : goal.invariant-loop-name
invariant-loop-name l = prop_named l.text ≡ first_named l.text (drop l.name-index l.name-items)
