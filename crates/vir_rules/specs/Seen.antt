-- Private values of the code, in the words of the definitions.
-- (The program's promises don't stand on this file.)
use Rattle.vir_term.specs.Tree.{tree}
use Rattle.vir_rules.specs.declared.row.Row.{Row}
use Rattle.vir_rules.specs.declared.letters.Letters.{Letters as Borrowed}
use Rattle.vir_rules.specs.Table.{Rule, rule}
use Rattle.vir_rules.specs.Premises.{Letters}

-- the rule that a row of the code is of
abbrev pub row_seen : Row → Rule
row_seen row = rule row.0.now row.1 row.2.now

-- letters of the code, which borrow their terms
abbrev pub letters_seen : Borrowed → Letters
letters_seen letters = record {
  k = letters.k;
  m = tree letters.m.now;
  n = tree letters.n.now;
  t = tree letters.t.now;
  u = tree letters.u.now;
}
