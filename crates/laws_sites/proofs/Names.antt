-- Names of classes: joining keeps what is joined, joins what it is given, and joins nothing else.
use Rattle.std.proofs.Common.{◌≡◌, ℕ, zero, suc, true, List, [], ◌∷◌, ◌++◌, length, flat_map, refl, sym, subst, inl, inr, arith}
use Rattle.std.proofs.lemmas.Bool.{cases_Bool, cond-true, cond-false}
use Rattle.std.specs.List.{zip}
use Rattle.std.proofs.lemmas.Grind.{common_steps}
use Rattle.model.specs.sites.Sites.{Constraint, SiteTerm, field_terms}
use Rattle.model.specs.visits.Demands.{Demands, site_term_eq}
use Rattle.model.specs.sites.Closure.{Joined, given, itself, turned, chained, at_field, class_name, same_class, joining, joining_each, due_with, due, joined_in, spoken_of, class_names}
use Rattle.model.proofs.Elements.{In, contains_from_in, from_flat_map, in_zip}
use Rattle.model.proofs.SameSites.{term_means, same_term}

abbrev Renamings : Type 0
Renamings = List (SiteTerm × SiteTerm)

-- two sites have one name
abbrev pub SameName : Renamings → SiteTerm → SiteTerm → Type 0
SameName rs a b = class_name rs a ≡ class_name rs b

pub same_name : (rs : Renamings) (a b : SiteTerm) → same_class rs a b ≡ true → SameName rs a b
same_name rs a b h = term_means (class_name rs a) (class_name rs b) h

pub name_same : (rs : Renamings) (a b : SiteTerm) → SameName rs a b → same_class rs a b ≡ true
name_same rs a b e = same_term (class_name rs a) (class_name rs b) e

pub joining_keeps : (rs : Renamings) (a b x y : SiteTerm) → SameName rs x y → SameName (joining rs a b) x y
joining_keeps rs a b x y e = grind (arith, common_steps)

pub joining_joins : (rs : Renamings) (a b : SiteTerm) → SameName (joining rs a b) a b
joining_joins rs a b = grind (arith, same_name, same_term)

pub each_keeps : (es : List (SiteTerm × SiteTerm)) (rs : Renamings) (x y : SiteTerm) → SameName rs x y → SameName (joining_each rs es) x y
each_keeps [] rs x y e = e
each_keeps (p ∷ es) rs x y e = each_keeps es (joining rs p.0 p.1) x y (joining_keeps rs p.0 p.1 x y e)

pub each_joins : (es : List (SiteTerm × SiteTerm)) (rs : Renamings) (e : SiteTerm × SiteTerm) → In es e → SameName (joining_each rs es) e.0 e.1
each_joins [] rs e i = absurd i
each_joins (p ∷ es) rs e (inl q) = grind (arith, common_steps, each_keeps, joining_joins)
each_joins (p ∷ es) rs e (inr i) = each_joins es (joining rs p.0 p.1) e i

pub rounds_keep : (n : ℕ) (cs : List (SiteTerm × Constraint)) (sites : List SiteTerm) (rs : Renamings) (x y : SiteTerm) → SameName rs x y → SameName (joined_in n cs sites rs) x y
rounds_keep zero cs sites rs x y e = e
rounds_keep (suc n) cs sites rs x y e = rounds_keep n cs sites (joining_each rs (due rs cs sites)) x y (each_keeps (due rs cs sites) rs x y e)

-- the demanded equalities are in the classes
pub given_joined : (d : Demands) (a b : SiteTerm) → In d.equalities (a, b) → SameName (class_names d) a b
given_joined d a b i = grind (arith, common_steps, rounds_keep, each_joins d.equalities [] (a, b) i)

-- all renamings are of sites that are joined
module _ (d : Demands) where
  abbrev pub AllJoined : Renamings → Type 0
  AllJoined rs = (r : SiteTerm × SiteTerm) → In rs r → Joined d r.0 r.1

  pub named_joined : (rs : Renamings) → AllJoined rs → (x : SiteTerm) → Joined d x (class_name rs x)
  named_joined [] h x = itself
  named_joined (r ∷ rs) h x =
      let before = named_joined rs (λ q i. h q (inr i)) x in
      elim (cases_Bool (site_term_eq (class_name rs x) r.0)) [
        | inl t ↦
            let e = term_means (class_name rs x) r.0 t in
            subst (Joined d x) (sym (cond-true (site_term_eq (class_name rs x) r.0) r.1 (class_name rs x) t)) (chained before (subst (λ n. Joined d n r.1) (sym e) (h r (inl refl))))
        | inr f ↦ subst (Joined d x) (sym (cond-false (site_term_eq (class_name rs x) r.0) r.1 (class_name rs x) f)) before
      ]

  pub same_joined : (rs : Renamings) → AllJoined rs → (a b : SiteTerm) → SameName rs a b → Joined d a b
  same_joined rs h a b e = chained (named_joined rs h a) (subst (λ n. Joined d n b) (sym e) (turned (named_joined rs h b)))

  joining_sound : (rs : Renamings) → AllJoined rs → (a b : SiteTerm) → Joined d a b → AllJoined (joining rs a b)
  joining_sound rs h a b j =
      elim (cases_Bool (same_class rs a b)) [
        | inl t ↦ subst AllJoined (sym (cond-true (same_class rs a b) rs ((class_name rs a, class_name rs b) ∷ rs) t)) h
        | inr f ↦ subst AllJoined (sym (cond-false (same_class rs a b) rs ((class_name rs a, class_name rs b) ∷ rs) f)) added
      ]
    where
      added : AllJoined ((class_name rs a, class_name rs b) ∷ rs)
      added r (inl e) = subst (λ w. Joined d w.0 w.1) e (chained (turned (named_joined rs h a)) (chained j (named_joined rs h b)))
      added r (inr i) = h r i

  pub each_sound : (es : List (SiteTerm × SiteTerm)) (rs : Renamings) → AllJoined rs → ((e : SiteTerm × SiteTerm) → In es e → Joined d e.0 e.1) → AllJoined (joining_each rs es)
  each_sound [] rs h j = h
  each_sound (p ∷ es) rs h j = each_sound es (joining rs p.0 p.1) (joining_sound rs h p.0 p.1 (j p (inl refl))) (λ e i. j e (inr i))

  pub due_sound : (rs : Renamings) → AllJoined rs → (sites : List SiteTerm) (e : SiteTerm × SiteTerm) → In (due rs d.constraints sites) e → Joined d e.0 e.1
  due_sound rs h sites e i =
      let a = from_flat_map (λ s. flat_map (due_with rs s) d.constraints) sites e i in
      let b = from_flat_map (due_with rs a.0) d.constraints e a.2 in
      of_pair a.0 b.0 b.1 b.2
    where
      of_pair : (s : SiteTerm) (c : SiteTerm × Constraint) → In d.constraints c → In (due_with rs s c) e → Joined d e.0 e.1
      of_pair s c m j =
          elim (cases_Bool (same_class rs s c.0)) [
            | inl t ↦
                let k = subst (λ l. In l e) (cond-true (same_class rs s c.0) (zip (field_terms c.1 s) (field_terms c.1 c.0)) [] t) j in
                let z = in_zip (field_terms c.1 s) (field_terms c.1 c.0) e k in
                let together = same_joined rs h s c.0 (same_name rs s c.0 t) in
                at_field z.0 together (turned together) (contains_from_in d.constraints c m) z.1 z.2
            | inr f ↦ absurd (subst (λ l. In l e) (cond-false (same_class rs s c.0) (zip (field_terms c.1 s) (field_terms c.1 c.0)) [] f) j)
          ]

  pub rounds_sound : (n : ℕ) (sites : List SiteTerm) (rs : Renamings) → AllJoined rs → AllJoined (joined_in n d.constraints sites rs)
  rounds_sound zero sites rs h = h
  rounds_sound (suc n) sites rs h = rounds_sound n sites (joining_each rs (due rs d.constraints sites)) (each_sound (due rs d.constraints sites) rs h (due_sound rs h sites))

  pub names_sound : AllJoined (class_names d)
  names_sound =
      rounds_sound (length (spoken_of d ++ flat_map (λ s. flat_map (λ c. field_terms c.1 s) d.constraints) (spoken_of d))) (spoken_of d) (joining_each [] d.equalities)
      (each_sound d.equalities [] (λ r i. absurd i) (λ e i. given (contains_from_in d.equalities e i)))

  -- what has one name must be equal
  pub named_alike : (a b : SiteTerm) → SameName (class_names d) a b → Joined d a b
  named_alike a b e = same_joined (class_names d) names_sound a b e
