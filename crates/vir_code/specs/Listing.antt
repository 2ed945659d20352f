-- The listing of code: one line for each instruction.
use Rattle.std.specs.Prelude.{ℕ, ◌+◌, List, [], ◌∷◌, ◌++◌, codes, decimal}
use Rattle.vir_term.specs.Text.{leaf_text}
use Rattle.vir_code.specs.declared.instr.Instr.{Instr}
use Rattle.vir_code.specs.declared.instr.Instr.TheVariants.{Call, KeepDomain, FetchDomain, JoinSeq, JoinMax, Revise}
use Rattle.vir_code.specs.declared.instr.Instr.TheVariants.{StartLoop, LoopTest, UntilTest, LoopBack, EndLoop}

-- the name of an instruction, and its arguments, each after a space
abbrev pub instr_text : Instr → List ℕ
instr_text (Call l) = codes "call " ++ leaf_text l
instr_text KeepDomain = codes "keep-domain"
instr_text FetchDomain = codes "fetch-domain"
instr_text JoinSeq = codes "join-seq"
instr_text JoinMax = codes "join-max"
instr_text Revise = codes "revise"
instr_text StartLoop = codes "start-loop"
instr_text (LoopTest k exit) = codes "loop-test " ++ decimal k ++ codes " " ++ decimal exit
instr_text (UntilTest k exit) = codes "until-test " ++ decimal k ++ codes " " ++ decimal exit
instr_text (LoopBack start) = codes "loop-back " ++ decimal start
instr_text EndLoop = codes "end-loop"

-- the line of an instruction: its position, a space, its text, and a line feed
abbrev pub line_text : ℕ → Instr → List ℕ
line_text p instr = decimal p ++ codes " " ++ instr_text instr ++ 10 ∷ []

-- the lines of instructions of which the first one stands at position p
abbrev pub lines_text : ℕ → List Instr → List ℕ
lines_text p [] = []
lines_text p (instr ∷ rest) = line_text p instr ++ lines_text (p + 1) rest

-- the listing of code
abbrev pub listing_text : List Instr → List ℕ
listing_text code = lines_text 0 code
