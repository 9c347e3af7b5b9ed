-- The steps of a condition, one part after another.
use Rattle.std.proofs.Common.{◌≡◌, ◌≤◌, ◌-◌, Bool, List, [], ◌∷◌, ◌++◌, drop, get_or, length, map, take, sym, ap, ◌∙◌, arith}
use Rattle.std.specs.List.{flat_map}
use Rattle.std.proofs.lemmas.List.{append_assoc, take_all}
use Rattle.laws_specs.specs.Conditions.{Condition}
use Rattle.laws_specs.specs.Specs.{Specs}
use Rattle.model.specs.rules.Program.{Program}
use Rattle.model.specs.sites.Sites.{Constraint, SiteTerm}
use Rattle.model_questions.specs.Forms as MF
use Rattle.model_questions.specs.Formulas as M
use Rattle.model_questions.specs.Steps as S
use Rattle.spec_cases.specs.declared.steps.Step.{Step}
use Rattle.spec_cases.specs.Expressions.{Saying}
use Rattle.spec_cases.specs.Namings.{Naming}
use Rattle.spec_steps.specs.declared.events.Event.{Event}
use Rattle.spec_steps.specs.Events.{event_view, event_views}
use Rattle.spec_steps.specs.Saying.{Adds}
use Rattle.spec_steps.proofs.AddingSteps.{adds_as, adds_then}

module _ (v : Naming) (w : Saying) (p : Program) (specs : Specs) (c : Condition) (plan : M.Place → Bool) where
  -- what happens first, and what happens then
  pub happens_then : (args : MF.Forms) (seen done told made : List SiteTerm) (l : List Event) (d : Event) (old mid new : List Step)
      → 1 ≤ length l
      → told ≡ S.event_sites p specs c done (event_view v (get_or l 0 d))
      → made ≡ S.made_after (event_view v (get_or l 0 d)) done
      → Adds v w old mid (flat_map (S.answer_steps p specs c done plan) (S.fresh seen told) ++ S.event_steps p specs c done args (event_view v (get_or l 0 d)))
      → Adds v w mid new (S.steps_from p specs c plan args (told ++ seen) made (event_views v (take (length l - 1) (drop 1 l))))
      → Adds v w old new (S.steps_from p specs c plan args seen done (event_views v l))
  happens_then args seen done told made [] d old mid new h e f here later = absurd (omega arith)
  happens_then args seen done told made (x ∷ l) d old mid new h e f here later =
      let event = event_view v x in
      let answers = λ (ss : List SiteTerm). flat_map (S.answer_steps p specs c done plan) (S.fresh seen ss) in
      let follows = S.event_steps p specs c done args event in
      let from = λ (ss us : List SiteTerm) (es : List S.Event). S.steps_from p specs c plan args (ss ++ seen) us es in
      adds_as v w old new _ _
      (append_assoc (answers told) follows (from told made (event_views v (take (length (x ∷ l) - 1) l)))
      ∙ ap (λ r. answers told ++ (follows ++ from told made (event_views v r))) (take_all (length (x ∷ l) - 1) l (omega arith))
      ∙ ap (λ u. answers told ++ (follows ++ from told u (event_views v l))) f
      ∙ ap (λ z. answers z ++ (follows ++ from z (S.made_after event done) (event_views v l))) e)
      (adds_then v w old mid new _ _ here later)

  -- all of it
  pub asked_in_order : (forms args : MF.Forms) (ks : List (SiteTerm × Constraint)) (old one two three four new : List Step)
      → forms ≡ S.args_of p specs c → args ≡ S.args_of p specs c → c.constraints ≡ ks
      → Adds v w old one (S.split_each plan forms) → Adds v w one two (S.told_steps p specs c ks) → Adds v w two three (S.field_splits p specs c plan S.is_argument ks)
      → Adds v w three four (map S.assumed (S.requires_of specs c.term args)) → Adds v w four new (S.steps_from p specs c plan args [] [] (S.events_of c))
      → Adds v w old new (S.steps_of p specs c plan)
  asked_in_order forms args ks old one two three four new e f g split told fields assumed happens =
      let own = S.args_of p specs c in
      let after = λ (z : MF.Forms). map S.assumed (S.requires_of specs c.term z) ++ S.steps_from p specs c plan z [] [] (S.events_of c) in
      let before = λ (l : List (SiteTerm × Constraint)). S.split_each plan own ++ (S.told_steps p specs c l ++ (S.field_splits p specs c plan S.is_argument l ++ after own)) in
      adds_as v w old new _ _
      (ap (λ z. S.split_each plan z ++ (S.told_steps p specs c ks ++ (S.field_splits p specs c plan S.is_argument ks ++ after args))) e
      ∙ ap (λ z. S.split_each plan own ++ (S.told_steps p specs c ks ++ (S.field_splits p specs c plan S.is_argument ks ++ after z))) f
      ∙ ap before (sym g))
      (adds_then v w old one new _ _ split (adds_then v w one two new _ _ told (adds_then v w two three new _ _ fields (adds_then v w three four new _ _ assumed happens))))
