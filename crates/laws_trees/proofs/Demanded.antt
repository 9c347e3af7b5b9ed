-- What demands ask of contents, where a rule matches and so that it does, step by step of a visit.
use Rattle.std.proofs.Common.{◌≡◌, ◌⊎◌, ◌==◌, ℕ, true, false, List, [], ◌∷◌, Option, Some, None, is_some, refl, sym, ap, subst, ◌∙◌, inl, inr, arith}
use Rattle.std.proofs.lemmas.Bool.{cases_Bool, cond-true, cond-false, false≢true}
use Rattle.std.proofs.lemmas.Grind.{common_steps}
use Rattle.model.specs.rules.Values.{Value, value_eq, well_typed}
use Rattle.model.specs.rules.Meaning.{Content, one, just}
use Rattle.model.specs.rules.Outcome.{then_option}
use Rattle.model.specs.rules.Picks.{Sited, SitedVars, sited_value, where_same}
use Rattle.model.specs.trees.Run.{content_fields, where_constant}
use Rattle.model.specs.sites.Sites.{Constraint, is_present, SiteTerm}
use Rattle.model.specs.visits.Demands.{site_term_eq, Demands, Visit, asking, equating, asking_all}
use Rattle.model.specs.sites.Closure.{IsMet, AreEqual}
use Rattle.model.specs.lists.Formed.{var_type}
use Rattle.model.proofs.Elements.{In, in_right, in_either, some_is, none_some}
use Rattle.model.proofs.SameSites.{term_means}
use Rattle.model.proofs.ValuesEqual.{eq_means, eq_same}
use Rattle.laws_sites.proofs.AskedSites.{equating_binds}
use Rattle.laws_sites.proofs.PatternParts.{outside}
use Rattle.laws_sites.proofs.Patterns.{from_then}
use Rattle.laws_trees.proofs.Contents.{Given, content_of, Here, is_value}
use Rattle.laws_sites.proofs.GrowingVisits.{Grown, equated}
use Rattle.laws_sites.proofs.SameExprs.{AreWithin}
use Rattle.laws_trees.proofs.Variables.{named, IsPresent, AllPresent, IsVar, AreVars, var_kept}
use Rattle.model.proofs.Either.{either}
use Rattle.laws_typing.proofs.FormedParts.{from_if}

-- the content of a site meets a constraint
abbrev pub Meets : Given → SiteTerm → Constraint → Type 0
Meets g s c = IsMet g.meaning g.args g.pick s c

abbrev pub Equal : Given → SiteTerm → SiteTerm → Type 0
Equal g a b = AreEqual g.meaning g.args g.pick a b

-- a site's value, if it has one, is of some type
abbrev pub IsTyped : Given → SiteTerm → Type 0
IsTyped g s = (v : Value) → content_of g s ≡ Some (one v) → (ty : ℕ) × (well_typed g.program.types ty v ≡ true)

-- where a rule matches: all is met, by values of types
pub record AreMet (g : Given) (d : Demands) : Type 0 where
  pub asked : (x : SiteTerm × Constraint) → In d.constraints x → Meets g x.0 x.1 × IsTyped g x.0
  pub equal : (x : SiteTerm × SiteTerm) → In d.equalities x → Equal g x.0 x.1

-- so that it does: the constraints are met, and equated sites have one value where both have one of one type
pub record AskEnough (g : Given) (d : Demands) : Type 0 where
  pub asked : (x : SiteTerm × Constraint) → In d.constraints x → Meets g x.0 x.1
  pub equal : (x : SiteTerm × SiteTerm) → In d.equalities x → (ty : ℕ) (v w : Value) → Here g x.0 ty v → Here g x.1 ty w → v ≡ w

pub enough_before : (g : Given) (v w : Visit) → Grown v w → AskEnough g w.demands → AskEnough g v.demands
enough_before g v w l a = record { asked = λ x i. a.asked x (l.asked x i); equal = λ x i. a.equal x (l.equal x i) }

-- one content
pub same_content : (g : Given) (s : SiteTerm) (c d : Content) → content_of g s ≡ Some c → content_of g s ≡ Some d → c ≡ d
same_content g s c d e f = some_is c d (sym e ∙ f)

pub one_is : (v w : Value) → one v ≡ one w → v ≡ w
one_is v w e = cc

pub one_not_just : (v : Value) (c : Content) → one v ≡ just c → ⊥
one_not_just v c e = cc

pub here_typed : (g : Given) (s : SiteTerm) (ty : ℕ) (v : Value) → Here g s ty v → IsTyped g s
here_typed g s ty v h w e = (ty, subst (λ u. well_typed g.program.types ty u ≡ true) (one_is v w (same_content g s (one v) (one w) h.content e)) h.typed)

-- 1. steps of a visit
pub met_asking : (g : Given) (s : SiteTerm) (c : Constraint) (v : Visit) → Meets g s c → IsTyped g s → AreMet g v.demands → AreMet g (asking s c v).demands
met_asking g s c v m t a = grind (arith, common_steps, in_either)

pub asked_now : (s : SiteTerm) (c : Constraint) (v : Visit) → In (asking s c v).demands.constraints (s, c)
asked_now s c v = in_right v.demands.constraints ((s, c) ∷ []) (s, c) (inl refl)

pub met_all : (g : Given) (ss : List SiteTerm) (v : Visit) → AllPresent g ss → AreMet g v.demands → AreMet g (asking_all ss v).demands
met_all g [] v p a = a
met_all g (s ∷ ss) v p a = met_all g ss (asking s is_present v) (λ u i. p u (inr i)) (met_asking g s is_present v (present_meets (p s (inl refl))) (present_typed (p s (inl refl))) a)
  where
    present_meets : IsPresent g s → Meets g s is_present
    present_meets h = record { content = just h.0; held = h.1; meets = refl }

    present_typed : IsPresent g s → IsTyped g s
    present_typed h w e = absurd (one_not_just w h.0 (same_content g s (one w) (just h.0) e h.1))

-- what is asked to answer does
pub meets_present : (g : Given) (s : SiteTerm) → Meets g s is_present → IsPresent g s
meets_present g s h = grind (arith, common_steps, content_of)

met_equated : (g : Given) (a b : SiteTerm) (v : Visit) → Equal g a b → AreMet g v.demands → AreMet g (equated a b v).demands
unfolding equated
met_equated g a b v q h = record {
  asked = h.asked;
  equal = λ x i. elim (in_either v.demands.equalities ((a, b) ∷ []) x i) [
    | inl j ↦ h.equal x j
    | inr j ↦ elim j [ inl e ↦ subst (λ (y : SiteTerm × SiteTerm). Equal g y.0 y.1) e q | inr n ↦ absurd n ]
  ];
}

pub met_equating : (g : Given) (a b : SiteTerm) (v : Visit) → Equal g a b → AreMet g v.demands → AreMet g (equating a b v).demands
unfolding equated
met_equating g a b v q h = either (λ (w : Visit). AreMet g w.demands) (site_term_eq a b) v (equated a b v) h (met_equated g a b v q h)

-- sites that were equated are one, or are equated
pub equated_now : (a b : SiteTerm) (v : Visit) → (a ≡ b) ⊎ In (equating a b v).demands.equalities (a, b)
unfolding equated
equated_now a b v =
    elim (cases_Bool (site_term_eq a b)) [
      | inl t ↦ inl (term_means a b t)
      | inr f ↦
          inr (subst (λ (w : Visit). In w.demands.equalities (a, b)) (sym (cond-false (site_term_eq a b) v (equated a b v) f)) (in_right v.demands.equalities ((a, b) ∷ []) (a, b) (inl refl)))
    ]

-- 2. variables that have values
pub record IsBound (g : Given) (e : SitedVars) (vs : List (ℕ × SiteTerm)) (x ty : ℕ) : Type 0 where
  pub var : IsVar g e vs x ty
  pub value : Value
  pub there : sited_value e x ≡ Some value

abbrev pub AreBound : Given → List (ℕ × ℕ) → SitedVars → List (ℕ × SiteTerm) → Type 0
AreBound g vars e vs = (x ty : ℕ) → var_type vars x ≡ Some ty → IsBound g e vs x ty

pub bound_vars : (g : Given) (vars : List (ℕ × ℕ)) (e : SitedVars) (vs : List (ℕ × SiteTerm)) → AreBound g vars e vs → AreVars g vars e vs
bound_vars g vars e vs f x ty h = (f x ty h).var

-- another variable is bound
pub bound_kept : (g : Given) (x y ty : ℕ) (a : Sited) (s : SiteTerm) (e : SitedVars) (vs : List (ℕ × SiteTerm)) → (x == y) ≡ false → IsBound g e vs y ty → IsBound g ((x, a) ∷ e) ((x, s) ∷ vs) y ty
bound_kept g x y ty a s e vs n b = grind (arith, common_steps, var_kept)

-- after some parts of a match and of a visit: what was met is met, enough was asked, and variables agree
pub record Past (g : Given) (more : List (ℕ × ℕ)) (e : SitedVars) (v w : Visit) (o : Option SitedVars) : Type 0 where
  pub met : AreMet g v.demands → (e' : SitedVars) → o ≡ Some e' → AreMet g w.demands
  pub found : AskEnough g w.demands → (e' : SitedVars) × (o ≡ Some e')
  pub agree : (e' : SitedVars) → o ≡ Some e' → AreBound g more e' w.vars

pub then_past : (g : Given) (mid more : List (ℕ × ℕ)) (e : SitedVars) (u v w : Visit) (o : Option SitedVars) (f : SitedVars → Option SitedVars)
    → Past g mid e u v o → Grown v w → ((e' : SitedVars) → o ≡ Some e' → Past g more e' v w (f e')) → Past g more e u w (then_option o f)
then_past g mid more e u v w o f a l b = record {
  met = λ h e' q. (let r = from_then o f e' q in (b r.0 r.1).met (a.met h r.0 r.1) e' r.2);
  found = λ h.
      (let r = a.found (enough_before g v w l h) in
      let s = (b r.0 r.1).found h in
      (s.0, ap (λ y. then_option y f) r.1 ∙ s.1));
  agree = λ e' q. (let r = from_then o f e' q in (b r.0 r.1).agree e' r.2);
}

-- likewise, and other variables stay
pub record After (g : Given) (more : List (ℕ × ℕ)) (e : SitedVars) (v w : Visit) (o : Option SitedVars) : Type 0 where
  pub met : AreMet g v.demands → (e' : SitedVars) → o ≡ Some e' → AreMet g w.demands
  pub found : AskEnough g w.demands → (e' : SitedVars) × (o ≡ Some e')
  pub agree : (e' : SitedVars) → o ≡ Some e' → AreBound g more e' w.vars
  pub kept : (e' : SitedVars) → o ≡ Some e' → (y t : ℕ) → is_some (var_type more y) ≡ false → IsBound g e v.vars y t → IsBound g e' w.vars y t

past_of : (g : Given) (more : List (ℕ × ℕ)) (e : SitedVars) (v w : Visit) (o : Option SitedVars) → After g more e v w o → Past g more e v w o
past_of g more e v w o a = record { met = a.met; found = a.found; agree = a.agree }

pub then_after : (g : Given) (mid more : List (ℕ × ℕ)) (e : SitedVars) (u v w : Visit) (o : Option SitedVars) (f : SitedVars → Option SitedVars)
    → After g mid e u v o → Grown v w → AreWithin mid more → ((e' : SitedVars) → o ≡ Some e' → After g more e' v w (f e')) → After g more e u w (then_option o f)
then_after g mid more e u v w o f a l n b =
    let past = then_past g mid more e u v w o f (past_of g mid e u v o a) l (λ e' q. past_of g more e' v w (f e') (b e' q)) in
    record {
      met = past.met;
      found = past.found;
      agree = past.agree;
      kept = λ e' q y t i h. (let r = from_then o f e' q in (b r.0 r.1).kept e' r.2 y t i (a.kept r.0 r.1 y t (outside mid more n y i) h));
    }

-- where nothing is bound
pub unbound : (g : Given) (vars : List (ℕ × ℕ)) (e : SitedVars) (v w : Visit) (o : Option SitedVars) → w.vars ≡ v.vars → AreBound g vars e v.vars → ((e' : SitedVars) → o ≡ Some e' → e ≡ e')
    → (AreMet g v.demands → (e' : SitedVars) → o ≡ Some e' → AreMet g w.demands) → (AskEnough g w.demands → o ≡ Some e) → After g vars e v w o
unbound g vars e v w o same b only m f = record {
  met = m;
  found = λ h. (e, f h);
  agree = λ e' q. subst (λ x. AreBound g vars x w.vars) (only e' q) (subst (AreBound g vars e) (sym same) b);
  kept = λ e' q y t i h. subst (λ x. IsBound g x w.vars y t) (only e' q) (subst (λ vs. IsBound g e vs y t) (sym same) h);
}

-- 3. one value
same_found : (o : Option Value) (v : Value) (e e' : SitedVars) → where_same o v e ≡ Some e' → (o ≡ Some v) × (e ≡ e')
same_found None v e e' q = absurd (none_some e' q)
same_found (Some w) v e e' q = let a = from_if (value_eq w v) (Some e) e' q in (ap Some (eq_means w v a.0), some_is e e' a.1)

same_there : (v : Value) (e : SitedVars) → where_same (Some v) v e ≡ Some e
same_there v e = cond-true (value_eq v v) (Some e) None (eq_same v)

pub constant_found : (o : Option Value) (v : Value) → is_some (where_constant o v) ≡ true → o ≡ Some v
constant_found None v h = absurd (false≢true h)
constant_found (Some w) v h =
    elim (cases_Bool (value_eq w v)) [
      | inl t ↦ ap Some (eq_means w v t)
      | inr f ↦ absurd (false≢true (sym (ap is_some (cond-false (value_eq w v) (Some []) None f)) ∙ h))
    ]

pub constant_where_same : (v : Value) → where_constant (Some v) v ≡ Some []
constant_where_same v = cond-true (value_eq v v) (Some []) None (eq_same v)

-- a constant
pub constant_after : (g : Given) (vars : List (ℕ × ℕ)) (e : SitedVars) (v : Visit) (s : SiteTerm) (c : Constraint) (ty : ℕ) (x : Value) (o : Option Value)
    → content_fields g.meaning c (one x) ≡ where_constant o x → Here g s ty x → AreBound g vars e v.vars → After g vars e v (asking s c v) (where_same o x e)
constant_after g vars e v s c ty x o q h b =
    unbound g vars e v (asking s c v) (where_same o x e) refl b (λ e' i. (same_found o x e e' i).1)
    (λ m e' i.
    let a = same_found o x e e' i in
    met_asking g s c v
    (record { content = one x; held = h.content; meets = ap is_some (q ∙ ap (λ y. where_constant y x) a.0 ∙ constant_where_same x) })
    (here_typed g s ty x h) m)
    (λ a.
    let m = a.asked (s, c) (asked_now s c v) in
    let same = same_content g s m.content (one x) m.held h.content in
    let there = constant_found o x (sym (ap is_some (ap (content_fields g.meaning c) same ∙ q)) ∙ m.meets) in
    ap (λ y. where_same y x e) there ∙ same_there x e)

-- a variable
pub var_after : (g : Given) (vars : List (ℕ × ℕ)) (e : SitedVars) (v : Visit) (s : SiteTerm) (y ty : ℕ) (x : Value) → Here g s ty x → IsBound g e v.vars y ty → AreBound g vars e v.vars
    → After g vars e v (equating s (named v.vars y) v) (where_same (sited_value e y) x e)
var_after g vars e v s y ty x h k b =
    unbound g vars e v (equating s (named v.vars y) v) (where_same (sited_value e y) x e) (equating_binds s (named v.vars y) v) b (λ e' i. (same_found (sited_value e y) x e e' i).1)
    (λ m e' i.
    let a = same_found (sited_value e y) x e e' i in
    met_equating g s (named v.vars y) v
    (record { value = x; first = h.content; second = is_value (content_of g (named v.vars y)) x (sym k.var.value ∙ a.0) }) m)
    (λ a.
    let there : Here g (named v.vars y) ty k.value = record { content = is_value (content_of g (named v.vars y)) k.value (sym k.var.value ∙ k.there); typed = k.var.typed k.value k.there } in
    let same : x ≡ k.value = elim (equated_now s (named v.vars y) v) [
      | inl q ↦ one_is x k.value (same_content g (named v.vars y) (one x) (one k.value) (subst (λ u. content_of g u ≡ Some (one x)) q h.content) there.content)
      | inr i ↦ a.equal (s, named v.vars y) i ty x k.value h there
    ] in
    ap (λ z. where_same z x e) (k.there ∙ ap Some (sym same)) ∙ same_there x e)
