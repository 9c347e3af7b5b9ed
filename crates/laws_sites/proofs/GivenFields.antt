-- In the demands of a rule each field that is spoken of is given by a constraint, and each that is given is made.
use Rattle.std.proofs.Common.{◌≡◌, ◌⊎◌, List, [], ◌∷◌, ◌++◌, Some, None, Contains, flat_map, refl, sym, ap, subst, inl, inr, ◌∙◌, arith}
use Rattle.std.proofs.lemmas.Grind.{common_steps}
use Rattle.model.specs.rules.Program.{Program}
use Rattle.model.specs.rules.Typed.{TypedRule}
use Rattle.model.specs.sites.Sites.{Constraint, is_present, SiteTerm, extractor_call, constructor_call, pick_of, variant_made, variant_field, struct_made, struct_field, some_made, some_part, tuple_part, no_site, SiteTerms, field_terms}
use Rattle.model.specs.visits.Demands.{Demands, demands_of, Visit, asking, iterating, calling, unwraps, unwraps_all, asking_all}
use Rattle.model.specs.sites.Closure.{with_owners, spoken_of}
use Rattle.model.proofs.Elements.{In, in_from_contains, contains_from_in, some_is, none_some, in_left, in_either, from_flat_map}
use Rattle.laws_sites.specs.FieldLaws.{IsGiven, FieldsAreGiven}
use Rattle.laws_sites.proofs.Classes.{with_sites_in}
use Rattle.laws_sites.proofs.Owners.{owner_of, owner_of_field, owners_of_field, no_other_owner}
use Rattle.laws_sites.proofs.Patterns.{by_field}
use Rattle.laws_sites.proofs.AskedSites.{at_left}
use Rattle.laws_sites.proofs.WithSites.{IsLeaf, by_leaf, by_equating, Onward, AtEach, KeptWithSites, unwrapped_at_each, no_step, then_onward, rule_given}

-- 1. what is kept
-- where a site is a field, a constraint of its owner gives it
abbrev IsGivenBy : List (SiteTerm × Constraint) → SiteTerm → Type 0
IsGivenBy cs u = (a : SiteTerm) → owner_of u ≡ Some a → (c : Constraint) × Contains cs (a, c) × Contains (field_terms c a) u

-- and so is each of its owners
abbrev AreGivenBy : List (SiteTerm × Constraint) → SiteTerm → Type 0
AreGivenBy cs s = (u : SiteTerm) → In (with_owners s) u → IsGivenBy cs u

-- what is asked and equated is given with its owners, and the fields of what is asked are made
record GivesFields (d : Demands) : Type 0 where
  asked : (e : SiteTerm × Constraint) → In d.constraints e → AreGivenBy d.constraints e.0
  equal : (e : SiteTerm × SiteTerm) → In d.equalities e → AreGivenBy d.constraints e.0 × AreGivenBy d.constraints e.1
  made : (e : SiteTerm × Constraint) → In d.constraints e → (x : SiteTerm) → In (field_terms e.1 e.0) x → In d.made x

-- a site is given with its owners, and unwraps no fields
abbrev IsGivenSite : Demands → SiteTerm → Type 0
IsGivenSite d s = AreGivenBy d.constraints s × ((u : SiteTerm) → In (unwraps s) u → owner_of u ≡ None)

abbrev OnwardGiven : Demands → Demands → Type 0
OnwardGiven = Onward GivesFields IsGivenSite

no_field_given : (cs : List (SiteTerm × Constraint)) (s : SiteTerm) → owner_of s ≡ None → AreGivenBy cs s
no_field_given cs s n u i a e = grind (arith, common_steps, no_other_owner, none_some)

more_given : (cs ds : List (SiteTerm × Constraint)) → ((x : SiteTerm × Constraint) → Contains cs x → Contains ds x) → (s : SiteTerm) → AreGivenBy cs s → AreGivenBy ds s
more_given cs ds more s g u i a e = let k = g u i a e in (k.0, more (a, k.0) k.1, k.2)

-- a field of a constrained site that is given
field_given : (cs : List (SiteTerm × Constraint)) (c : Constraint) (s x : SiteTerm) → Contains cs (s, c) → In (field_terms c s) x → AreGivenBy cs s → AreGivenBy cs x
field_given cs c s x k i g u j = grind (arith, owners_of_field, some_is, owner_of_field, contains_from_in)

-- 2. steps
iterating_on : (s : SiteTerm) (v : Visit) → GivesFields v.demands → OnwardGiven v.demands (iterating s v).demands
iterating_on s v h = record { holds = record { asked = h.asked; equal = h.equal; made = h.made }; stays = λ u m. m }

calling_on : (s : SiteTerm) (v : Visit) → GivesFields v.demands → OnwardGiven v.demands (calling s v).demands
calling_on s v h = record { holds = record { asked = h.asked; equal = h.equal; made = h.made }; stays = λ u m. m }

-- a site is asked whose fields, where it has some, are made
asking_on : (s : SiteTerm) (c : Constraint) (v : Visit) → AreGivenBy v.demands.constraints s → ((x : SiteTerm) → In (field_terms c s) x → In v.demands.made x) → GivesFields v.demands
    → OnwardGiven v.demands (asking s c v).demands
asking_on s c v g f h = record {
  holds = record {
    asked = λ e i. elim (either e i) [ inl j ↦ stay e.0 (h.asked e j) | inr q ↦ subst (λ (x : SiteTerm × Constraint). AreGivenBy ds x.0) q (stay s g) ];
    equal = λ e i. (stay e.0 (h.equal e i).0, stay e.1 (h.equal e i).1);
    made = λ e i. elim (either e i) [ inl j ↦ h.made e j | inr q ↦ subst (λ (x : SiteTerm × Constraint). (u : SiteTerm) → In (field_terms x.1 x.0) u → In v.demands.made u) q f ];
  };
  stays = λ u m. (stay u m.0, m.1);
}
  where
    ds : List (SiteTerm × Constraint)
    ds = v.demands.constraints ++ (s, c) ∷ []

    either : (e : SiteTerm × Constraint) → In ds e → In v.demands.constraints e ⊎ ((s, c) ≡ e)
    either e i = elim (in_either v.demands.constraints ((s, c) ∷ []) e i) [ inl j ↦ inl j | inr j ↦ elim j [ inl q ↦ inr q | inr n ↦ absurd n ] ]

    stay : (u : SiteTerm) → AreGivenBy v.demands.constraints u → AreGivenBy ds u
    stay = more_given v.demands.constraints ds (at_left v.demands.constraints ((s, c) ∷ []))

asking_all_on : (ss : List SiteTerm) (v : Visit) → ((s : SiteTerm) → In ss s → owner_of s ≡ None) → GivesFields v.demands → OnwardGiven v.demands (asking_all ss v).demands
asking_all_on [] v f h = no_step GivesFields IsGivenSite v.demands h
asking_all_on (s ∷ ss) v f h =
    let w = asking s is_present v in
    let a = asking_on s is_present v (no_field_given v.demands.constraints s (f s (inl refl))) (λ x i. absurd i) h in
    then_onward GivesFields IsGivenSite v.demands w.demands (asking_all ss w).demands a (asking_all_on ss w (λ u i. f u (inr i)) a.holds)

leaf_given : (d : Demands) (s : SiteTerm) → IsLeaf s → IsGivenSite d s
leaf_given d = grind (arith, common_steps, by_leaf, no_field_given)

-- what these unwrap are no fields, nor is a call
all_unwrapped : (d : Demands) (ss : SiteTerms) → AtEach GivesFields IsGivenSite d ss → (u : SiteTerm) → In (unwraps_all ss) u → owner_of u ≡ None
all_unwrapped d = unwrapped_at_each GivesFields IsGivenSite (λ u. owner_of u ≡ None) d (λ s m. m.1)

part_given : (d : Demands) (call : SiteTerm) → owner_of call ≡ None → ((u : SiteTerm) → In (unwraps call) u → owner_of u ≡ None) → IsGivenSite d (some_part call)
part_given d call n deep = (no_field_given d.constraints (some_part call) refl, λ u i. elim i [ inl e ↦ ap owner_of (sym e) ∙ n | inr j ↦ deep u j ])

-- 3. rules
fields_kept : (p : Program) → KeptWithSites GivesFields IsGivenSite p
fields_kept p = record {
  unbound = λ d. (no_field_given d.constraints no_site refl, λ u i. absurd i);
  leaf = λ d s l n. leaf_given d s l;
  variant = λ d ty variant ss n m. (no_field_given d.constraints (variant_made ty variant ss) refl, all_unwrapped d ss m);
  struct = λ d ty ss n m. (no_field_given d.constraints (struct_made ty ss) refl, all_unwrapped d ss m);
  result = λ d s n m. (no_field_given d.constraints (some_made s) refl, m.1);
  tuple = λ d s i n m. (no_field_given d.constraints (tuple_part s i) refl, m.1);
  field = λ d c s x n a i m. (field_given d.constraints c s x a i m.0, by_field (λ y. (u : SiteTerm) → In (unwraps y) u → owner_of u ≡ None) s (λ variant j. m.1) (λ j. m.1) c x i);
  extracted = λ d t s flags e f n m. (no_field_given d.constraints (extractor_call t s) refl, m.1);
  answer = λ d t i ss flags b e f c n m. part_given d (constructor_call t ss i) refl (all_unwrapped d ss m);
  pick = λ d t i ss c n m. (no_field_given d.constraints (pick_of (constructor_call t ss i)) refl, all_unwrapped d ss m);
  call = λ d t i ss flags b e f g n m. (no_field_given d.constraints (constructor_call t ss i) refl, all_unwrapped d ss m);
  counts = λ c v h. record { holds = record { asked = h.asked; equal = h.equal; made = h.made }; stays = λ s m. m };
  makes = grind (arith, in_left);
  calls = λ s v h m. calling_on s v h;
  equates = λ a b v h m n. by_equating (λ w. OnwardGiven v.demands w.demands) a b v (no_step GivesFields IsGivenSite v.demands h) (grind (arith, common_steps, in_either));
  asks = λ s c v f h m. asking_on s c v m.0 f h;
  asks_all = λ s v h m. asking_all_on (unwraps s) v m.1 h;
  asks_call = λ t s v flags e f c n h m.
      let call = extractor_call t s in
      record { onward = asking_on call is_present v (no_field_given v.demands.constraints call refl) (λ x i. absurd i) h; site = part_given (asking call is_present v).demands call refl m.1 };
  iterates_extractor = grind (arith, common_steps, iterating_on, no_field_given);
  iterates_constructor = λ t i ss v flags b e f n m h. iterating_on (constructor_call t ss i) v h;
}

rule_gives : (p : Program) (r : TypedRule) → GivesFields (demands_of p r)
rule_gives p r = (rule_given p GivesFields IsGivenSite (fields_kept p) r (record { asked = λ e i. absurd i; equal = λ e i. absurd i; made = λ e i. absurd i })).0

shown : (d : Demands) (s : SiteTerm) → IsGivenBy d.constraints s → IsGiven d s
shown d (variant_field a variant i) h = h a refl
shown d (struct_field a i) h = h a refl
shown d _ h = tt

spoken_given : (d : Demands) → GivesFields d → (s : SiteTerm) → In (spoken_of d) s → IsGivenBy d.constraints s
spoken_given d h s i =
    elim (with_sites_in [] (flat_map asked d.constraints ++ flat_map equal d.equalities) s i) [
      | inl n ↦ absurd n
      | inr j ↦
          elim (in_either (flat_map asked d.constraints) (flat_map equal d.equalities) s j) [
            | inl k ↦ let f = from_flat_map asked d.constraints s k in h.asked f.0 f.1 s f.2
            | inr k ↦ grind (arith, common_steps, from_flat_map, in_either)
          ]
    ]
  where
    asked : SiteTerm × Constraint → List SiteTerm
    asked c = with_owners c.0

    equal : SiteTerm × SiteTerm → List SiteTerm
    equal e = with_owners e.0 ++ with_owners e.1

pub fields_are_given_lem : FieldsAreGiven
fields_are_given_lem p r =
    let d = demands_of p r in
    let h = rule_gives p r in
    record {
      given = λ s i. shown d s (spoken_given d h s (in_from_contains (spoken_of d) s i));
      made = λ s x g. contains_from_in d.made x (h.made (s, g.0) (in_from_contains d.constraints (s, g.0) g.1) x (in_from_contains (field_terms g.0 s) x g.2));
    }
