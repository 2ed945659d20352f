use Rattle.std.proofs.Common.{◌≡◌, All, take}
use Rattle.std.specs.List.{flat_map}
use Rattle.vir_term.specs.Limits.{IsLeafInRange}
use Rattle.vir_samples.specs.Samples.{module_of}
use Rattle.vir_samples.proofs.texts.modules_of.Given as goal

-- the modules of the first texts are listed
abbrev pub invariant-loop-text : goal.invariant-loop-text
invariant-loop-text l = record {
  these : l.modules.items ≡ flat_map (λ text. module_of text.now) (take l.text-index l.texts);
  within : All IsLeafInRange l.modules.items;
}
