-- Demands on two outputs of one multi call: one answer must meet both.
use Rattle.std.specs.Prelude.{◌∷◌, [], ℤ, pos}
use Rattle.model.specs.rules.Meaning.{Content, Meaning, content_and, many, no_content, parts, finite}
use Rattle.model.specs.rules.Picks.{Pick}
use Rattle.model.specs.rules.Values.{value_and}
use Rattle.model.specs.sites.Closure.{DemandsHold}
use Rattle.model.specs.visits.Demands.{Demands}
use Rattle.model.specs.sites.Sites.{SiteTerm, extractor_call, pick_of, tuple_part}
use Rattle.laws_examples.specs.MeaningForms.{alone, given, literal, v, of_literals}
use Rattle.laws_examples.specs.SetForms.{a0, asking, is_byte}

-- the call of a multi extractor on argument 0
abbrev pub call_me : SiteTerm
call_me = extractor_call 0 a0

abbrev pub pair : ℤ → ℤ → Content
pair a b = parts (value_and (v a) (alone b))

-- the extractor answers these two pairs for 0
abbrev pub answering : Content → Content → Meaning
answering a b = finite (record (of_literals (literal (pos 1) ∷ literal (pos 2) ∷ [])) { extractor_calls = ((0, v (pos 0)), many (content_and a (content_and b no_content))) ∷ [] })

-- of (rule (f (me 1 2)) 7)
abbrev pub one_and_two : Demands
one_and_two = record (asking ((tuple_part (pick_of call_me) 0, is_byte 1) ∷ (tuple_part (pick_of call_me) 1, is_byte 2) ∷ []) [] []) { iterators = call_me ∷ [] }

-- where each answer meets one of two constraints, demands hold under no pick
abbrev pub HoldUnderNoPick : Type 0
HoldUnderNoPick = (k : Pick) → DemandsHold (answering (pair (pos 1) (pos 5)) (pair (pos 6) (pos 2))) (given (pos 0)) k one_and_two → ⊥

-- where the second answer meets both, they hold under its pick
abbrev pub HoldUnderOnePick : Type 0
HoldUnderOnePick = DemandsHold (answering (pair (pos 1) (pos 5)) (pair (pos 1) (pos 2))) (given (pos 0)) ((call_me, 1) ∷ []) one_and_two
