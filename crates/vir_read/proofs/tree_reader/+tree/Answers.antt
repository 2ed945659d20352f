use Rattle.std.proofs.Common.{◌+◌, ◌-◌, ◌<◌, ◌∷◌, length, drop, get_or, Ok, ap, sym, ◌∙◌, subst, arith, drop-cons}
use Rattle.std.proofs.Common.{add-one}
use Rattle.vir_read.specs.declared.symbol.Symbol.TheVariants.{OpenParenthesis}
use Rattle.vir_read.specs.Faults.{Gives, Fails, ◌>>=◌}
use Rattle.vir_read.specs.RawTrees.{word, gathered, listed, raw_tree}
use Rattle.vir_read.specs.Grammar.{separator_of, close_of, member_of, members, tree_at, unexpected, inside}
use Rattle.vir_read.specs.Grammar.{word_then}
use Rattle.vir_read.proofs.ListedLemmas.{with_front}
use Rattle.vir_read.proofs.RawLemmas.{raw_tree-number, raw_tree-word}
use Rattle.vir_read.proofs.TreeLemmas.{no_token}
use Rattle.vir_read.proofs.MemberLemmas.{closes, continues, member_fails, separator_fails}
use Rattle.vir_read.proofs.TypingLemmas.{fails_as, fails_fault, fails_on}
use Rattle.vir_read.proofs.BeginLemmas.{brackets_closed, brackets_open, word_alone, word_opens, inside-no_room}
use Rattle.vir_read.proofs.BeginLemmas.{inside-room, tree_within-here, tree_within-end, tree_wrong}
use Rattle.vir_read.proofs.tree_reader.+tree.Goals as goal

pub read_members-returns-in-Err-clause-members : goal.read_members-returns-in-Err-clause-members
read_members-returns-in-Err-clause-members t c =
    member_fails c.args.text.now (close_of c.args.kind) (member_of c.args.text.now c.args.kind) c.args.list.now _
    (listed c.loop.trees)
    c.loop.counter c.loop.at c.loop-test.true c.loop.invariant.whole c.in-Err.e c.in-Err.ensures.tree

pub read_members-returns-in-Err-read_separator-clause-members :
    goal.read_members-returns-in-Err-read_separator-clause-members
read_members-returns-in-Err-read_separator-clause-members t c =
    let rest = drop c.in-Ok.member.next c.args.list.now in
    separator_fails c.args.text.now (close_of c.args.kind) (member_of c.args.text.now c.args.kind) c.args.list.now _
    (listed c.loop.trees)
    c.loop.counter c.loop.at c.loop-test.true c.loop.invariant.whole
    (raw_tree c.in-Ok.member.raw) rest c.in-Ok.ensures.tree c.in-Err-read_separator.e
    (fails_as c.in-Err-read_separator.e _ _ (sym (ap (λ s. separator_of c.args.text.now s rest) c.close.ensures))
    c.in-Err-read_separator.ensures.exact)

pub read_members-returns-in-Ok-Close-clause-members : goal.read_members-returns-in-Ok-Close-clause-members
read_members-returns-in-Ok-Close-clause-members t c =
    let rest = drop c.in-Ok.member.next c.args.list.now in
    let left = drop (c.in-Ok.member.next + 1) c.args.list.now in
    closes c.args.text.now (close_of c.args.kind) (member_of c.args.text.now c.args.kind) c.args.list.now _
    (listed c.loop.trees)
    c.loop.counter c.loop.at c.loop-test.true c.loop.invariant.whole
    (raw_tree c.in-Ok.member.raw) rest c.in-Ok.ensures.tree left
    (sym (ap (λ s. separator_of c.args.text.now s rest) c.close.ensures)
    ∙ (rw c.in-Ok-Close.field-0-is at c.in-Ok-Close.ensures.exact))
    ∙ ap (λ trees. Ok (trees, left)) (sym (c.shrink.ensures ∙ c.in_ok-push.ensures.pushed))

pub read_members-loop-preserved : goal.read_members-loop-preserved
read_members-loop-preserved t c =
    let text = c.args.text.now in
    let close = close_of c.args.kind in
    let tree = member_of text c.args.kind in
    let list = c.args.list.now in
    let h = c.in-Ok.ensures.forward.0 in
    let k = c.in-Ok-Comma.ensures.within in
    let l = c.loop.invariant.forward in
    record {
      whole =
          ap (λ trees. with_front trees (members text close tree (length list - (c.loop.counter + 1))
          (drop (c.in-Ok.member.next + 1) list))) c.in_ok-push.ensures.pushed
          ∙ continues text close tree list _ (listed c.loop.trees) c.loop.counter c.loop.at c.loop-test.true
          c.loop.invariant.whole (raw_tree c.in-Ok.member.raw)
          (drop c.in-Ok.member.next list) c.in-Ok.ensures.tree (drop (c.in-Ok.member.next + 1) list)
          (sym (ap (λ s. separator_of text s (drop c.in-Ok.member.next list)) c.close.ensures)
          ∙ (rw c.in-Ok-Comma.field-0-is at c.in-Ok-Comma.ensures.exact));
      forward = omega arith;
      within = omega arith;
    }

pub read_tree-returns-then-from-list-clause-tree : goal.read_tree-returns-then-from-list-clause-tree
read_tree-returns-then-from-list-clause-tree t c = fails_fault _ _ _ c.unexpected.ensures
    (tree_within-end c.args.text.now c.args.room c.args.list.now c.args.from (let e = c.if-from-list.true
    in omega arith))

pub read_tree-returns-in-Word-clause-tree : goal.read_tree-returns-in-Word-clause-tree
read_tree-returns-in-Word-clause-tree t c =
    let h : c.args.from < length c.args.list.now = (let r = c.requires in let n = c.if-from-list.false in omega arith)
    in
    let here = tree_within-here c.args.text.now c.args.room c.args.list.now c.args.from no_token h in
    subst (Gives (λ end. (raw_tree end.raw, drop end.next c.args.list.now)) c.read_word.result)
    (sym (here ∙ ap (tree_at c.args.text.now (inside c.args.text.now c.args.room)
    (get_or c.args.list.now c.args.from no_token) (drop (c.args.from + 1) c.args.list.now)) (sym c.symbol.ensures
    ∙ c.in-Word.is))) c.read_word.ensures.tree

pub read_tree-returns-in-Number-clause-tree : goal.read_tree-returns-in-Number-clause-tree
read_tree-returns-in-Number-clause-tree t c =
    let h : c.args.from < length c.args.list.now = (let r = c.requires in let n = c.if-from-list.false in omega arith)
    in
    let here = tree_within-here c.args.text.now c.args.room c.args.list.now c.args.from no_token h in
    here ∙ ap (tree_at c.args.text.now (inside c.args.text.now c.args.room) (get_or c.args.list.now c.args.from
    no_token) (drop (c.args.from + 1) c.args.list.now)) (sym c.symbol.ensures ∙ c.in-Number.is)
    ∙ ap (λ t. Ok (t, drop (c.args.from + 1) c.args.list.now))
    (sym (raw_tree-number (get_or c.args.list.now c.args.from no_token).start (get_or c.args.list.now c.args.from
    no_token).end))

pub read_tree-returns-in-OpenBracket-clause-tree : goal.read_tree-returns-in-OpenBracket-clause-tree
read_tree-returns-in-OpenBracket-clause-tree t c =
    let h : c.args.from < length c.args.list.now = (let r = c.requires in let n = c.if-from-list.false in omega arith)
    in
    let here = tree_within-here c.args.text.now c.args.room c.args.list.now c.args.from no_token h in
    subst (Gives (λ end. (raw_tree end.raw, drop end.next c.args.list.now)) c.read_list.result)
    (sym (here ∙ ap (tree_at c.args.text.now (inside c.args.text.now c.args.room)
    (get_or c.args.list.now c.args.from no_token) (drop (c.args.from + 1) c.args.list.now)) (sym c.symbol.ensures
    ∙ c.in-OpenBracket.is))) c.read_list.ensures.tree

pub read_tree-returns-in_default : goal.read_tree-returns-in_default
read_tree-returns-in_default t c =
    let h : c.args.from < length c.args.list.now = (let r = c.requires in let n = c.if-from-list.false in omega arith)
    in
    let here = tree_within-here c.args.text.now c.args.room c.args.list.now c.args.from no_token h in
    record {
      tree = fails_fault _ _ _ c.unexpected-in_default.ensures
          (here ∙ ap (tree_at c.args.text.now (inside c.args.text.now c.args.room) (get_or c.args.list.now c.args.from
          no_token) (drop (c.args.from + 1) c.args.list.now)) (sym c.symbol.ensures)
          ∙ tree_wrong c.args.text.now (inside c.args.text.now c.args.room) (get_or c.args.list.now c.args.from
          no_token) (drop (c.args.from + 1) c.args.list.now) c.symbol.result c.in_default.not-Word
          c.in_default.not-Number c.in_default.not-OpenBracket
          ∙ ap (unexpected c.args.text.now) (ap (λ n. get_or c.args.list.now c.args.from no_token
          ∷ drop n c.args.list.now) (add-one c.args.from)
          ∙ sym (drop-cons c.args.list.now c.args.from no_token h)));
      forward = tt;
    }

pub read_word-returns-then-not-is_symbol-clause-tree : goal.read_word-returns-then-not-is_symbol-clause-tree
read_word-returns-then-not-is_symbol-clause-tree t c =
    word_alone c.args.text.now (inside c.args.text.now c.args.room) c.args.word c.args.list.now c.args.from
    c.if-not-is_symbol.ensures.symbol
    ∙ ap (λ t. Ok (t, drop c.args.from c.args.list.now))
    (sym (raw_tree-word c.args.word.start c.args.word.end c.new.result
    ∙ ap (λ trees. word c.args.word.start c.args.word.end (gathered trees)) c.new.ensures))

pub read_word-returns-then-room-eq0-clause-tree : goal.read_word-returns-then-room-eq0-clause-tree
read_word-returns-then-room-eq0-clause-tree t c =
    let opens = word_opens c.args.text.now (inside c.args.text.now c.args.room) c.args.word no_token c.args.list.now
    c.args.from c.if-not-is_symbol.ensures.symbol in
    fails_fault _ _ _ c.too_deep.ensures
    (opens ∙ ap (λ i. word_then c.args.text.now i c.args.word (get_or c.args.list.now c.args.from no_token)
    (drop (c.args.from + 1) c.args.list.now) OpenParenthesis)
    (inside-no_room c.args.text.now c.args.room c.if-room-eq0.true))

pub read_word-returns-in-Ok-clause-tree : goal.read_word-returns-in-Ok-clause-tree
read_word-returns-in-Ok-clause-tree t c =
    let opens = word_opens c.args.text.now (inside c.args.text.now c.args.room) c.args.word no_token c.args.list.now
    c.args.from c.if-not-is_symbol.ensures.symbol in
    let room : 0 < c.args.room = (let n = c.if-room-eq0.false in omega arith) in
    let of_word = c.args.word in
    opens ∙ ap (λ i. word_then c.args.text.now i c.args.word (get_or c.args.list.now c.args.from no_token)
    (drop (c.args.from + 1) c.args.list.now) OpenParenthesis) (inside-room c.args.text.now c.args.room room)
    ∙ ap (λ r. r >>= λ found. Ok (word of_word.start of_word.end (gathered found.0), found.1)) c.in-Ok.ensures.members
    ∙ ap (λ t. Ok (t, drop c.in-Ok.field-0.next c.args.list.now))
    (sym (raw_tree-word c.args.word.start c.args.word.end c.in-Ok.field-0.trees))

pub read_word-returns-in-Err-clause-tree : goal.read_word-returns-in-Err-clause-tree
read_word-returns-in-Err-clause-tree t c =
    let opens = word_opens c.args.text.now (inside c.args.text.now c.args.room) c.args.word no_token c.args.list.now
    c.args.from c.if-not-is_symbol.ensures.symbol in
    let room : 0 < c.args.room = (let n = c.if-room-eq0.false in omega arith) in
    subst (Fails c.in-Err.e)
    (sym (opens ∙ ap (λ i. word_then c.args.text.now i c.args.word (get_or c.args.list.now c.args.from no_token)
    (drop (c.args.from + 1) c.args.list.now) OpenParenthesis) (inside-room c.args.text.now c.args.room room)))
    (fails_on c.in-Err.e _ (λ found. Ok (word c.args.word.start c.args.word.end (gathered found.0), found.1))
    c.in-Err.ensures.members)

pub read_brackets-returns-then-is_symbol-clause-members : goal.read_brackets-returns-then-is_symbol-clause-members
read_brackets-returns-then-is_symbol-clause-members t c =
    brackets_closed c.args.text.now c.args.list.now c.args.from c.if-is_symbol.ensures.symbol
    ∙ ap (λ trees. Ok (trees, drop (c.args.from + 1) c.args.list.now)) (sym c.new.ensures)

pub read_brackets-returns-else-is_symbol-clause-members : goal.read_brackets-returns-else-is_symbol-clause-members
read_brackets-returns-else-is_symbol-clause-members t c =
    subst (Gives (λ end. (listed end.trees, drop end.next c.args.list.now)) c.read_members.result)
    (sym (brackets_open c.args.text.now c.args.list.now c.args.from c.if-is_symbol.ensures.symbol))
    c.read_members.ensures.members
