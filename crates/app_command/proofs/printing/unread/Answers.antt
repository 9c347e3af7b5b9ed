use Rattle.std.proofs.Common.{◌≡◌, ◌≢◌, ◌∷◌, [], List, inl, inr, map, refl, rules}
use Rattle.text_reader.specs.RecoveryViews.{wrong_view}
use Rattle.app_command.proofs.printing.unread.Goals as goal

some_mapped : {A B : Type 0} (f : A → B) (xs : List A) → xs ≢ [] → map f xs ≢ []
some_mapped f [] some = absurd (some refl)
some_mapped f (x ∷ xs) some = λ e. absurd (cc e)

pub returns : goal.returns
returns c =
    inr (inl (some_mapped wrong_view c.args.contents.now.mistakes.items c.requires), c.in_ok-answer.ensures.refusal, c.in_ok-answer.ensures.told (search rules))
