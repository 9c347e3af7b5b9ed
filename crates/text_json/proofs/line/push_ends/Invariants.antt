use Rattle.std.proofs.Common.{◌≡◌, ◌∷◌, ◌++◌, length, reverse}
use Rattle.text_json.specs.Nesting.{closed, nesting}
use Rattle.text_json.specs.Writing.{all_last_tokens}
use Rattle.text_json.proofs.line.push_ends.Given as goal

abbrev pub invariant-loop-around : goal.invariant-loop-around
invariant-loop-around l =
    (nesting l.out.tokens ≡ closed (reverse l.outer.items)) × (l.out.before ≡ l.fn.out.before)
    × (l.out.tokens ++ all_last_tokens (reverse l.outer.items) ≡ l.fn.out.tokens ++ all_last_tokens (l.fn.place ∷ reverse l.initial.outer.items))

abbrev pub decreases-loop-around : goal.decreases-loop-around
decreases-loop-around l = length l.outer.items
