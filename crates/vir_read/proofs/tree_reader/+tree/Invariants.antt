use Rattle.std.proofs.Common.{◌≡◌, ℕ, ◌+◌, ◌-◌, ◌*◌, ◌≤◌, length, drop}
use Rattle.vir_read.specs.declared.tree_reader.Members.{Members}
use Rattle.vir_read.specs.declared.tree_reader.Members.TheVariants.{Trees, Numbers}
use Rattle.vir_read.specs.RawTrees.{listed}
use Rattle.vir_read.specs.Grammar.{close_of, member_of, members}
use Rattle.vir_read.proofs.ListedLemmas.{with_front}
use Rattle.vir_read.proofs.tree_reader.+tree.Given as goal

-- how far a member may still go down
abbrev pub depth : Members → ℕ
depth (Trees room) = 4 * room + 3
depth Numbers = 0

abbrev pub decreases-read_member : goal.decreases-read_member
decreases-read_member l = depth l.kind

abbrev pub decreases-read_members : goal.decreases-read_members
decreases-read_members l = depth l.kind + 1

abbrev pub decreases-read_tree : goal.decreases-read_tree
decreases-read_tree l = 4 * l.room + 2

abbrev pub decreases-read_word : goal.decreases-read_word
decreases-read_word l = 4 * l.room + 1

abbrev pub decreases-read_list : goal.decreases-read_list
decreases-read_list l = 4 * l.room + 1

abbrev pub decreases-read_brackets : goal.decreases-read_brackets
decreases-read_brackets l = 2

abbrev pub invariant-read_members-loop : goal.invariant-read_members-loop
invariant-read_members-loop l = record {
  whole : with_front (listed l.trees) (members l.text (close_of l.fn.kind) (member_of l.text l.fn.kind)
      (length l.list - l.counter) (drop l.at l.list))
      ≡ members l.text (close_of l.fn.kind) (member_of l.text l.fn.kind) (length (drop l.fn.from l.list))
      (drop l.fn.from l.list);
  forward : l.fn.from ≤ l.at;
  within : l.at ≤ length l.list;
}
