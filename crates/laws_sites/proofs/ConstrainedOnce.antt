-- Closed demands list each constrained site once, so that as many constraints among others are all of them.
use Rattle.std.proofs.Common.{◌≡◌, ◌≤◌, ℕ, List, [], ◌∷◌, ◌++◌, map, length, None, refl, inl, inr, arith}
use Rattle.std.proofs.lemmas.Grind.{common_steps}
use Rattle.model.specs.sites.Sites.{Constraint, SiteTerm}
use Rattle.model.specs.visits.Demands.{Demands}
use Rattle.model.specs.sites.Closure.{constraint_of, Closed, class_at, with_constraint, with_constraints, ascending, closing, before_closing, most_closing_steps, closed}
use Rattle.model.proofs.DistinctCounts.{dropped}
use Rattle.model.proofs.Elements.{In, in_either, none_some}
use Rattle.model.proofs.SameSites.{same_term}
use Rattle.laws_sites.proofs.Closing.{closing_keeps}

-- each site stands once
abbrev pub StandOnce : List (SiteTerm × Constraint) → Type 0
StandOnce [] = Unit {0}
StandOnce (x ∷ xs) = ((c : Constraint) → In xs (x.0, c) → ⊥) × StandOnce xs

push_once : (cs : List (SiteTerm × Constraint)) (s : SiteTerm) (d : Constraint) → StandOnce cs → ((c : Constraint) → In cs (s, c) → ⊥) → StandOnce (cs ++ (s, d) ∷ [])
push_once [] s d h n = ((λ c i. i), tt)
push_once (x ∷ cs) s d h n = grind (arith, push_once cs s d h.1 (λ c i. n c (inr i)), in_either cs ((s, d) ∷ []), x.0, h.0, n x.1, x.1)

none_there : (cs : List (SiteTerm × Constraint)) (s : SiteTerm) → constraint_of cs s ≡ None → (c : Constraint) → In cs (s, c) → ⊥
none_there [] s e c i = i
none_there (x ∷ cs) s e c i = grind (arith, common_steps, none_there cs s, none_some, same_term)

each_once : (cs ds : List (SiteTerm × Constraint)) → StandOnce cs → StandOnce (with_constraints cs ds)
each_once cs [] h = h
each_once cs (x ∷ ds) h = each_once (with_constraint cs x) ds (grind (arith, common_steps, push_once, none_there))

closing_once : (n : ℕ) (k : Closed) → StandOnce k.constraints → StandOnce (closing n k).constraints
closing_once = closing_keeps (λ k. StandOnce k.constraints) (λ k h c e. each_once k.constraints (map (λ m. (m, c.1)) (ascending k.made (class_at k.classes c.0))) h)

pub closed_once : (before : List SiteTerm) (d : Demands) → StandOnce (closed before d).constraints
closed_once before d = closing_once most_closing_steps (before_closing before d) (each_once [] d.constraints tt)

-- constraints among others that are no more are all of these
pub all_among : (bs cs : List (SiteTerm × Constraint)) → StandOnce bs → ((x : SiteTerm × Constraint) → In bs x → In cs x) → length cs ≤ length bs → (x : SiteTerm × Constraint) → In cs x → In bs x
all_among [] [] h f l x i = i
all_among [] (y ∷ cs) h f l x i = absurd (omega (arith, l))
all_among (b ∷ bs) cs h f l x i = grind (arith, common_steps, all_among bs, dropped cs b (f b (inl refl)), In bs)
