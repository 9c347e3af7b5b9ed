-- Naming one rule after another.
use Rattle.std.proofs.Common.{◌≡◌, ◌≢◌, ℕ, zero, suc, ◌+◌, ◌<◌, Bool, true, false, cond, nat_eq, IsTrue, Contains, List, [], ◌∷◌, ◌++◌, length, drop, get_or, Option, Some, None, option_map, is_some, unwrap_or, slice_get, refl, sym, ap, subst, ◌∙◌, arith, inl, inr, ◌⊎◌}
use Rattle.std.specs.Bool.{◌==◌}
use Rattle.std.specs.List.{cons_option}
use Rattle.std.proofs.lemmas.Bool.{false≢true, eqb-true, eq-eqb}
use Rattle.std.proofs.lemmas.List.{append_assoc, append-nil, at_drop_more}
use Rattle.std.proofs.lemmas.List.Elements.{filter_map-append}
use Rattle.std.proofs.lemmas.Grind.{common_steps}
use Rattle.core_syntax.specs.declared.syntax.Error.{Error}
use Rattle.core_syntax.specs.Stable.{Entries, look_up}
use Rattle.model.specs.lists.Names.{IsDistinct}
use Rattle.model.proofs.Positions.{distinct_nil, distinct_push, twice}
use Rattle.model.proofs.Members.{member_from_get}
use Rattle.model.specs.rules.Typed.{TypedRule}
use Rattle.model.specs.lists.Elaborated.{rule_names, rule_named}
use Rattle.core_types.specs.declared.ids.Sym.{Sym}
use Rattle.core_types.specs.declared.ids.RuleId.{RuleId}
use Rattle.core_types.specs.Envs.{same_symbol}
use Rattle.core_typed.specs.declared.rules.Rule.{Rule}
use Rattle.core_typed.specs.RuleViews.{rule_view, rule_views}
use Rattle.core_syntax.specs.NotedErrors.{NotesMore, MayNoteMore}
use Rattle.core_syntax.specs.Positions.{NotesAt}
use Rattle.core_typed.specs.RuleNaming.{rule_in, NamesAs, NamesRule, MapsNames, TakesName, takes_name}
use Rattle.core_syntax.proofs.NotedErrors.{both, some_noted}
use Rattle.core_typed.proofs.FirstErrors.{goes_on, IsNoted, BeginsUnless, begins_next}

-- whether a rule has the name
abbrev has_it : Option ℕ → ℕ → Bool
has_it o k = unwrap_or (option_map (λ n. n == k) o) false

abbrev or_first : Option ℕ → Option ℕ → Option ℕ
or_first None o = o
or_first (Some i) o = Some i

named_append : (xs ys : List TypedRule) (k : ℕ) → rule_named (xs ++ ys) k ≡ or_first (rule_named xs k) (rule_named ys k)
named_append [] ys k = refl
named_append (x ∷ xs) ys k = grind (arith, common_steps, named_append xs ys k)

or_none : (o : Option ℕ) → or_first o None ≡ o
or_none o = grind (arith, common_steps)

-- a name that a rule has stands among the names
named_place : (xs : List TypedRule) (k i : ℕ) → rule_named xs k ≡ Some i → (j : ℕ) × (j < length (rule_names xs)) × (slice_get (rule_names xs) j ≡ Some k)
named_place [] k i e = absurd (cc)
named_place (x ∷ xs) k i e =
    elim (x.name) as (λ o. cond (has_it o k) (Some x.id) (rule_named xs k) ≡ Some i → (j : ℕ) × (j < length (cons_option o (rule_names xs))) × (slice_get (cons_option o (rule_names xs)) j ≡ Some k)) [
      | None ↦ λ h. named_place xs k i h
      | Some n ↦ λ h. elim (n == k) as (λ b. n == k ≡ b → cond b (Some x.id) (rule_named xs k) ≡ Some i → (j : ℕ) × (j < suc (length (rule_names xs))) × (slice_get (n ∷ rule_names xs) j ≡ Some k)) [
        | true ↦ λ same _. (zero, omega arith, ap Some (eqb-true n k same))
        | false ↦ λ _ g. let r = named_place xs k i g in (suc r.0, omega (arith, r.1), r.2)
      ] refl h
    ] e

absent_rest : (ns : List ℕ) (k n : ℕ) → n == k ≡ false → ((j : ℕ) → slice_get ns j ≡ Some k → ⊥) → (j : ℕ) → slice_get (n ∷ ns) j ≡ Some k → ⊥
absent_rest ns k n other none j g = grind (arith, common_steps, eq-eqb)

-- a name that no rule has doesn't
named_absent : (xs : List TypedRule) (k : ℕ) → rule_named xs k ≡ None → (j : ℕ) → slice_get (rule_names xs) j ≡ Some k → ⊥
named_absent [] k e j h = absurd (cc)
named_absent (x ∷ xs) k e j h = grind (arith, common_steps, named_absent xs k, absent_rest)

-- a name that the map hasn't
pub free_at : (m : Entries Sym RuleId) (s : Sym) → is_some (look_up same_symbol m s) ≡ false → rule_in m s.0 ≡ None
free_at m s e = grind (arith, common_steps)

-- what is read off a map with one more entry
pub read_rules : (old new : Entries Sym RuleId) (s : Sym) (id : RuleId) → ((x : Sym) → look_up same_symbol new x ≡ cond (same_symbol s x) (Some id) (look_up same_symbol old x)) → (k : ℕ) → rule_in new k ≡ cond (nat_eq s.0 k) (Some id.0) (rule_in old k)
read_rules old new s id has k = grind (arith, common_steps)

-- where the naming of rules is
pub record Mapping (all rest : List TypedRule) (m : Entries Sym RuleId) : Type 0 where
  pub done : List TypedRule
  pub whole : done ++ rest ≡ all
  pub distinct : IsDistinct (rule_names done)
  pub ids : (k : ℕ) → rule_in m k ≡ rule_named done k

abbrev pub MappingAt : List TypedRule → List TypedRule → List Error → List Error → Entries Sym RuleId → Type 0
MappingAt all rest old new m = ((new ≡ old) × Mapping all rest m) ⊎ (NotesMore old new × (IsDistinct (rule_names all) → ⊥))

module _ (all rest : List TypedRule) (r : TypedRule) (before after : Entries Sym RuleId) (m : Mapping all (r ∷ rest) before) where
  unnamed : r.name ≡ None → after ≡ before → Mapping all rest after
  unnamed none same = record {
    done = m.done ++ r ∷ [];
    whole = append_assoc m.done (r ∷ []) rest ∙ m.whole;
    distinct = subst IsDistinct (sym (filter_map-append (λ q. q.name) m.done (r ∷ []) ∙ ap (λ o. rule_names m.done ++ cons_option o []) none ∙ append-nil (rule_names m.done))) m.distinct;
    ids = grind (arith, common_steps, named_append, or_none);
  }

  module _ (name : ℕ) (has : r.name ≡ Some name) where
    names_then : rule_names (m.done ++ r ∷ []) ≡ rule_names m.done ++ name ∷ []
    names_then = filter_map-append (λ q. q.name) m.done (r ∷ []) ∙ ap (λ o. rule_names m.done ++ cons_option o []) has

    named : rule_in before name ≡ None → ((k : ℕ) → rule_in after k ≡ cond (nat_eq name k) (Some r.id) (rule_in before k)) → Mapping all rest after
    named free is = record {
      done = m.done ++ r ∷ [];
      whole = append_assoc m.done (r ∷ []) rest ∙ m.whole;
      distinct = subst IsDistinct (sym names_then) (distinct_push (rule_names m.done) name m.distinct (named_absent m.done name (sym (m.ids name) ∙ free)));
      ids = grind (arith, common_steps, eqb-true, or_none, named_append);
    }

    names_all : rule_names all ≡ rule_names m.done ++ name ∷ rule_names rest
    names_all = grind (arith, common_steps, filter_map-append)

    there : IsTrue (is_some (rule_in before name)) → Contains (rule_names m.done) name
    there some = grind (arith, common_steps, named_place, member_from_get)

    taken : IsTrue (is_some (rule_in before name)) → IsDistinct (rule_names all) → ⊥
    taken some once =
        elim (rule_named m.done name) as (λ o. rule_named m.done name ≡ o → is_some o ≡ true → ⊥) [
          | None ↦ λ _ h. false≢true h
          | Some i ↦ λ e _.
              let p = named_place m.done name i e in
              twice (rule_names m.done) (rule_names rest) (rule_names all) name p.0 once (sym names_all) p.1 p.2
        ] refl (sym (ap is_some (m.ids name)) ∙ some)

step_name : (all rest : List TypedRule) (r : TypedRule) (old mid new : List Error) (before after : Entries Sym RuleId) (o : Option ℕ) → r.name ≡ o → MappingAt all (r ∷ rest) old mid before → NamesAs mid new r.id o before after → MappingAt all rest old new after
step_name all rest r old mid new before after None e (inl a) s = inl (s.0 ∙ a.0, unnamed all rest r before after a.1 e s.1)
step_name all rest r old mid new before after (Some n) e (inl a) (inl s) = inl (s.0 ∙ a.0, named all rest r before after a.1 n e s.1 s.2)
step_name all rest r old mid new before after (Some n) e (inl a) (inr s) = inr (subst (λ es. NotesMore es new) a.0 s.0, taken all rest r before after a.1 n e s.1)
step_name all rest r old mid new before after None e (inr a) s = inr (subst (NotesMore old) (sym s.0) a.0, a.1)
step_name all rest r old mid new before after (Some n) e (inr a) (inl s) = inr (subst (NotesMore old) (sym s.0) a.0, a.1)
step_name all rest r old mid new before after (Some n) e (inr a) (inr s) = inr (both old mid new a.0 s.0, a.1)

-- after the rule at i
pub next_named : (rules : List Rule) (i : ℕ) (r : Rule) → i < length rules → r ≡ get_or rules i r → (old mid new : List Error) (before after : Entries Sym RuleId) → MappingAt (rule_views rules) (rule_views (drop i rules)) old mid before → NamesRule mid new (rule_view r) before after → MappingAt (rule_views rules) (rule_views (drop (i + 1) rules)) old new after
next_named rules i r within at old mid new before after a s =
    let left : rule_views (drop i rules) ≡ rule_view r ∷ rule_views (drop (i + 1) rules) =
    at_drop_more rule_views rules i r within ∙ ap (λ x. rule_view x ∷ rule_views (drop (i + 1) rules)) (sym at) in
    step_name (rule_views rules) (rule_views (drop (i + 1) rules)) (rule_view r) old mid new before after (rule_view r).name refl (subst (λ rs. MappingAt (rule_views rules) rs old mid before) left a) s

pub first_named : (all : List TypedRule) (es : List Error) (m : Entries Sym RuleId) → ((k : ℕ) → rule_in m k ≡ None) → MappingAt all all es es m
first_named all es m none = inl (refl, record { done = []; whole = refl; distinct = distinct_nil; ids = none })

pub last_named : (all : List TypedRule) (old new : List Error) (m : Entries Sym RuleId) → MappingAt all [] old new m → MapsNames old new all m
last_named all old new m h = grind (arith, common_steps, append-nil)

-- the first name that is taken
name_noted : (old new : List Error) (id : ℕ) (o : Option ℕ) (before after : Entries Sym RuleId) → NamesAs old new id o before after → MayNoteMore old new
name_noted old new id o before after s = grind arith

module _ (all rest : List TypedRule) (r : TypedRule) (mid new : List Error) (before after : Entries Sym RuleId) (m : Mapping all (r ∷ rest) before) (none : mid ≡ []) (noted : NotesAt (r.at ∷ []) mid new) where
  name_taken : (o : Option ℕ) → r.name ≡ o → NamesAs mid new r.id o before after → ((new ≡ []) × Unit {0}) ⊎ ((new ≢ []) × IsNoted (TakesName all) mid new)
  name_taken None e s = inl (s.0 ∙ none, tt)
  name_taken (Some n) e (inl s) = inl (s.0 ∙ none, tt)
  name_taken (Some n) e (inr s) = inr (some_noted s.0, (r.at ∷ [], takes_name m.done r rest (sym m.whole) m.distinct n e (there all rest r before after m n e s.1), noted))

mapping_here : (all rest : List TypedRule) (old mid : List Error) (m : Entries Sym RuleId) → MappingAt all rest old mid m → mid ≡ [] → Mapping all rest m
mapping_here all rest old mid m (inl a) none = a.1
mapping_here all rest old mid m (inr a) none = absurd (some_noted a.0 none)

pub next_begins : (rules : List Rule) (i : ℕ) (r : Rule) → i < length rules → r ≡ get_or rules i r → (old mid new : List Error) (before after : Entries Sym RuleId) → MappingAt (rule_views rules) (rule_views (drop i rules)) old mid before → NamesRule mid new (rule_view r) before after
    → NotesAt ((rule_view r).at ∷ []) mid new → BeginsUnless (TakesName (rule_views rules)) (Unit {0}) old mid → BeginsUnless (TakesName (rule_views rules)) (Unit {0}) old new
next_begins rules i r within at old mid new before after a s noted b =
    let all = rule_views rules in
    let left : rule_views (drop i rules) ≡ rule_view r ∷ rule_views (drop (i + 1) rules) =
    at_drop_more rule_views rules i r within ∙ ap (λ x. rule_view x ∷ rule_views (drop (i + 1) rules)) (sym at) in
    begins_next (TakesName all) (Unit {0}) (Unit {0}) old mid new b (goes_on mid new (name_noted mid new (rule_view r).id (rule_view r).name before after s))
    (λ none _. name_taken all (rule_views (drop (i + 1) rules)) (rule_view r) mid new before after
    (subst (λ rs. Mapping all rs before) left (mapping_here all (rule_views (drop i rules)) old mid before a none)) none noted (rule_view r).name refl s)
