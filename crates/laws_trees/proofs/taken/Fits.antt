-- Under a meaning that serves a term's rules, what a site holds at or below which no impure call stands fits the site's form; and
-- such a site holds something where it waits for nothing and its sources hold something.
use Rattle.std.proofs.Common.{◌≡◌, ◌≢◌, ◌⊎◌, ℕ, zero, suc, ◌<◌, Bool, true, false, not, List, [], ◌∷◌, length, Option, Some, None, is_some, slice_get, IsSomeAnd, Contains, IsTrue, refl, sym, ap, subst, ◌∙◌, inl, inr, arith}
use Rattle.std.specs.List.{list_all}
use Rattle.std.proofs.lemmas.Bool.{and_parts, false≢true}
use Rattle.std.proofs.lemmas.Option.{slice_get_within}
use Rattle.std.proofs.lemmas.Grind.{common_steps}
use Rattle.model.specs.lists.Tables.{TypeEntry}
use Rattle.model.specs.rules.Values.{Value, truth, atom, of_variant, of_struct, Values, no_value, value_and, listed, variant_types, struct_types, well_typed, all_well_typed}
use Rattle.model.specs.rules.Meaning.{Content, one, parts, nothing, just, many, contents, bool_literal, int_literal, literal_value, constant_value, extractor_answer, pure_answer, impure_answer}
use Rattle.model.specs.rules.Outcome.{then_option}
use Rattle.model.specs.rules.Program.{Program, kind}
use Rattle.model.specs.rules.Picks.{Pick, picked, part_of_some, field_of_variant, field_of_struct, site_content, site_values, call_answer}
use Rattle.model.specs.rules.Typed.{TypedRule}
use Rattle.model.specs.sites.Sites.{Site, bool_site, int_site, prim_site, argument_site, extractor_site, constructor_site, iterator_site, make_variant_site, match_variant_site, make_struct_site, extract_struct_site, make_some_site, match_some_site, match_tuple_site, SiteTerm, variant_field, struct_field, each_term, layer, unfold_site, sources_of, sources_at}
use Rattle.model.specs.sites.Serves.{Serves, asked, fits_one, fits_answer, fits_extractor, fits_constructor, typed_as, term_results}
use Rattle.model.specs.trees.Places.{waits, below}
use Rattle.model.specs.trees.Run.{World, as_value, from_value, part_at}
use Rattle.model.specs.trees.Collects.{content_at, IsPureSite}
use Rattle.model.proofs.Elements.{none_some, some_is}
use Rattle.model.proofs.Members.{in_head, in_tail}
use Rattle.laws_trees.proofs.runs.Below.{IsPureBelow, below_itself, below_source, below_enough}
use Rattle.laws_trees.proofs.runs.Contents.{SourcesBefore, sources_in, content_layer, unfolded_layer}
use Rattle.laws_trees.proofs.Contents.{is_value}
use Rattle.laws_trees.proofs.taken.Forms.{Form, form, a_value, IsCall, term_count, IsOfForm, AreValues}
use Rattle.laws_sites.proofs.Patterns.{from_then}
use Rattle.laws_trees.proofs.Shapes.{as_many_values}

-- 1. values that have as many fields as their variants and structs
abbrev pub AsManyFields : Option (List ℕ) → Values → Type 0
AsManyFields o vs = (tys : List ℕ) × (o ≡ Some tys) × (length (listed vs) ≡ length tys)

abbrev mutual
  pub IsWhole : List TypeEntry → Value → Type 0
  IsWhole types (truth b) = Unit {0}
  IsWhole types (atom ty n) = Unit {0}
  IsWhole types (of_variant ty i vs) = AsManyFields (variant_types (slice_get types ty) i) vs × AreWhole types vs
  IsWhole types (of_struct ty vs) = AsManyFields (struct_types (slice_get types ty)) vs × AreWhole types vs

  pub AreWhole : List TypeEntry → Values → Type 0
  AreWhole types no_value = Unit {0}
  AreWhole types (value_and v vs) = IsWhole types v × AreWhole types vs

typed_fields : (types : List TypeEntry) (o : Option (List ℕ)) (vs : Values) → all_well_typed types o vs ≡ true → AsManyFields o vs
typed_fields types o vs h = grind (arith, common_steps, as_many_values)

mutual
  pub typed_whole : (types : List TypeEntry) (ty : ℕ) (v : Value) → well_typed types ty v ≡ true → IsWhole types v
  typed_whole types ty (truth b) h = tt
  typed_whole types ty (atom s n) h = tt
  typed_whole types ty (of_variant s i vs) h = grind (arith, common_steps, all_typed_whole types (variant_types (slice_get types ty) i) vs, and_parts, typed_fields)
  typed_whole types ty (of_struct s vs) h = grind (arith, common_steps, all_typed_whole types (struct_types (slice_get types ty)) vs, and_parts, typed_fields)

  all_typed_whole : (types : List TypeEntry) (o : Option (List ℕ)) (vs : Values) → all_well_typed types o vs ≡ true → AreWhole types vs
  all_typed_whole types o no_value h = tt
  all_typed_whole types None (value_and v vs) h = absurd (false≢true h)
  all_typed_whole types (Some []) (value_and v vs) h = absurd (false≢true h)
  all_typed_whole types (Some (ty ∷ tys)) (value_and v vs) h = grind (arith, common_steps, typed_whole types ty v, all_typed_whole types (Some tys) vs, and_parts)

part_whole : (types : List TypeEntry) (vs : Values) (i : ℕ) (v : Value) → AreWhole types vs → slice_get (listed vs) i ≡ Some v → IsWhole types v
part_whole types no_value i v h e = absurd (none_some v e)
part_whole types (value_and w vs) zero v h e = subst (IsWhole types) (some_is w v e) h.0
part_whole types (value_and w vs) (suc i) v h e = part_whole types vs i v h.1 e

-- 2. contents of a form
abbrev pub AreOutputs : List TypeEntry → ℕ → Content → Type 0
AreOutputs types n (one v) = (n ≡ 1) × IsWhole types v
AreOutputs types n (parts vs) = (n ≢ 1) × (length (listed vs) ≡ n) × AreWhole types vs
AreOutputs types n _ = ⊥

abbrev EachOutputs : List TypeEntry → ℕ → List Content → Type 0
EachOutputs types n [] = Unit {0}
EachOutputs types n (c ∷ cs) = AreOutputs types n c × EachOutputs types n cs

abbrev pub FitsAs : List TypeEntry → Bool → Bool → ℕ → Content → Type 0
FitsAs types true o n (many cs) = EachOutputs types n (contents cs)
FitsAs types true o n _ = ⊥
FitsAs types false true n nothing = Unit {0}
FitsAs types false true n (just c) = AreOutputs types n c
FitsAs types false true n _ = ⊥
FitsAs types false false n c = AreOutputs types n c

abbrev pub FitsForm : List TypeEntry → Form → Content → Type 0
FitsForm types q c = FitsAs types q.multi q.optional q.count c

one_outputs : (p : Program) (tys : List ℕ) (c : Content) → fits_one p tys c ≡ true → AreOutputs p.types (length tys) c
one_outputs p (ty ∷ []) (one v) h = (refl, typed_whole p.types ty v h)
one_outputs p (ty ∷ []) (parts vs) h = absurd (false≢true h)
one_outputs p (ty ∷ []) nothing h = absurd (false≢true h)
one_outputs p (ty ∷ []) (just c) h = absurd (false≢true h)
one_outputs p (ty ∷ []) (many cs) h = absurd (false≢true h)
one_outputs p [] (parts vs) h = grind (arith, common_steps, as_many_values, all_typed_whole)
one_outputs p [] (one v) h = absurd (false≢true h)
one_outputs p [] nothing h = absurd (false≢true h)
one_outputs p [] (just c) h = absurd (false≢true h)
one_outputs p [] (many cs) h = absurd (false≢true h)
one_outputs p (ty ∷ (ty' ∷ tys)) (parts vs) h = ((λ e. two_one (length tys) e), as_many_values p.types (ty ∷ (ty' ∷ tys)) vs h, all_typed_whole p.types (Some (ty ∷ (ty' ∷ tys))) vs h)
  where
    two_one : (n : ℕ) → suc (suc n) ≡ 1 → ⊥
    two_one n e = omega (arith, e)
one_outputs p (ty ∷ (ty' ∷ tys)) (one v) h = absurd (false≢true h)
one_outputs p (ty ∷ (ty' ∷ tys)) nothing h = absurd (false≢true h)
one_outputs p (ty ∷ (ty' ∷ tys)) (just c) h = absurd (false≢true h)
one_outputs p (ty ∷ (ty' ∷ tys)) (many cs) h = absurd (false≢true h)

each_outputs : (p : Program) (tys : List ℕ) (cs : List Content) → list_all (fits_one p tys) cs ≡ true → EachOutputs p.types (length tys) cs
each_outputs p tys [] h = tt
each_outputs p tys (c ∷ cs) h = let a = and_parts (fits_one p tys c) (list_all (fits_one p tys) cs) h in (one_outputs p tys c a.0, each_outputs p tys cs a.1)

answer_fits : (p : Program) (multi optional : Bool) (tys : List ℕ) (c : Content) → fits_answer p multi optional tys c ≡ true → FitsAs p.types multi optional (length tys) c
answer_fits p true o tys (many cs) h = each_outputs p tys (contents cs) h
answer_fits p true o tys (one v) h = absurd (false≢true h)
answer_fits p true o tys (parts vs) h = absurd (false≢true h)
answer_fits p true o tys nothing h = absurd (false≢true h)
answer_fits p true o tys (just c) h = absurd (false≢true h)
answer_fits p false true tys nothing h = tt
answer_fits p false true tys (just c) h = one_outputs p tys c h
answer_fits p false true tys (one v) h = absurd (false≢true h)
answer_fits p false true tys (parts vs) h = absurd (false≢true h)
answer_fits p false true tys (many cs) h = absurd (false≢true h)
answer_fits p false false tys c h = one_outputs p tys c h

extractor_fits : (p : Program) (t : ℕ) (x : IsCall p t) (c : Content) → fits_extractor p t (kind p t) c ≡ true → FitsForm p.types (form x.flags.multi (not x.infallible) (length x.entry.arg_tys)) c
extractor_fits p t x c h = grind (arith, common_steps, answer_fits)

constructor_fits : (p : Program) (t : ℕ) (x : IsCall p t) (c : Content) → fits_constructor p t (kind p t) c ≡ true → FitsForm p.types (form x.flags.multi x.flags.partial 1) c
constructor_fits p t x c h = grind (arith, common_steps, answer_fits p x.flags.multi x.flags.partial (term_results (slice_get p.terms t)) c)

-- a value
pub the_value : (types : List TypeEntry) (c : Content) → FitsForm types a_value c → (v : Value) × (c ≡ one v) × IsWhole types v
the_value types c h = grind (arith, common_steps)

there_is : {X : Type 0} (o : Option X) → IsTrue (is_some o) → (x : X) × (o ≡ Some x)
there_is o h = grind (arith, common_steps)

some_and : {X : Type 0} (o : Option X) (P : X → Type 0) → IsSomeAnd o P → (x : X) × (o ≡ Some x) × P x
some_and o P h = grind (arith, common_steps)

from_value_is : (o : Option Value) (c : Content) → from_value o ≡ Some c → (v : Value) × (o ≡ Some v) × (c ≡ one v)
from_value_is o c e = grind (arith, common_steps, none_some, some_is)

-- parts of values and of contents
value_fits : (types : List TypeEntry) (o : Option Value) (f : Value → Bool) → ((v : Value) → f v ≡ true → IsWhole types v) → IsSomeAnd o (λ v. IsTrue (f v)) → (c : Content) → from_value o ≡ Some c → FitsForm types a_value c
value_fits types o f whole h c e = grind (arith, common_steps, from_value_is)

constant_whole : (p : Program) (t : Option ℕ) (v : Value) → typed_as p t v ≡ true → IsWhole p.types v
constant_whole p None v h = absurd (false≢true h)
constant_whole p (Some ty) v h = typed_whole p.types ty v h

slice_fits : (types : List TypeEntry) (vs : Values) (i : ℕ) (c : Content) → AreWhole types vs → from_value (slice_get (listed vs) i) ≡ Some c → FitsForm types a_value c
slice_fits types vs i c h e = grind (arith, common_steps, from_value_is, part_whole)

variant_field_fits : (types : List TypeEntry) (variant i : ℕ) (v : Value) (c : Content) → IsWhole types v → field_of_variant variant i v ≡ Some c → FitsForm types a_value c
variant_field_fits types variant i v c h e = grind (arith, common_steps, none_some, slice_fits)

struct_field_fits : (types : List TypeEntry) (i : ℕ) (v : Value) (c : Content) → IsWhole types v → field_of_struct i v ≡ Some c → FitsForm types a_value c
struct_field_fits types i (truth b) c h e = absurd (none_some c e)
struct_field_fits types i (atom ty n) c h e = absurd (none_some c e)
struct_field_fits types i (of_variant ty j vs) c h e = absurd (none_some c e)
struct_field_fits types i (of_struct ty vs) c h e = slice_fits types vs i c h.1 e

some_part_fits : (types : List TypeEntry) (n : ℕ) (x c : Content) → FitsAs types false true n x → part_of_some x ≡ Some c → FitsAs types false false n c
some_part_fits types n x c h e = grind (arith, common_steps, some_is, none_some)

tuple_part_fits : (types : List TypeEntry) (n i : ℕ) (x c : Content) → FitsAs types false false (suc (suc n)) x → part_at x i ≡ Some c → FitsForm types a_value c
tuple_part_fits types n i x c h e = grind (arith, common_steps, slice_fits, none_some)

element_fits : (types : List TypeEntry) (n : ℕ) (cs : List Content) (o : Option ℕ) (c : Content) → EachOutputs types n cs → then_option o (slice_get cs) ≡ Some c → AreOutputs types n c
element_fits types n cs None c h e = absurd (none_some c e)
element_fits types n [] (Some i) c h e = absurd (none_some c e)
element_fits types n (d ∷ cs) (Some zero) c h e = subst (AreOutputs types n) (some_is d c e) h.0
element_fits types n (d ∷ cs) (Some (suc i)) c h e = element_fits types n cs (Some i) c h.1 e

picked_fits_as : (types : List TypeEntry) (o : Bool) (n : ℕ) (k : Pick) (call : SiteTerm) (x c : Content) → FitsAs types true o n x → picked k call x ≡ Some c → FitsAs types false false n c
picked_fits_as types o n k call x c h e = grind (arith, common_steps, element_fits)

element_there : (vs : List Value) (i : ℕ) → i < length vs → IsTrue (is_some (slice_get vs i))
element_there [] i l = absurd (omega (arith, l))
element_there (v ∷ vs) zero l = refl
element_there (v ∷ vs) (suc i) l = element_there vs i (omega (arith, l))

value_made_there : (o : Option Value) → IsTrue (is_some o) → IsTrue (is_some (from_value o))
value_made_there o h = grind (arith, common_steps)

tuple_part_there : (types : List TypeEntry) (n i : ℕ) (x : Content) → FitsAs types false false (suc (suc n)) x → i < suc (suc n) → IsTrue (is_some (part_at x i))
tuple_part_there types n i x h l = grind (arith, common_steps, value_made_there, element_there)

-- a field of a value
abbrev pub IsField : SiteTerm → Type 0
IsField (variant_field s variant i) = Unit {0}
IsField (struct_field s i) = Unit {0}
IsField _ = ⊥

only_asked : {P : Type 0} → P ⊎ ⊥ → P
only_asked h = grind (arith, common_steps)

-- 3. sites
-- a world whose sites stand after their sources, have forms, and are asked by rules that the meaning serves or are fields, and
-- whose arguments are whole
pub record IsServed (p : Program) (n : ℕ) (rs : List TypedRule) (w : World) : Type 0 where
  pub before : SourcesBefore w.sites
  pub forms : (s : ℕ) → s < length w.sites → (q : Form) × IsOfForm p n (unfold_site w.sites s) q
  pub asks : (s : ℕ) → s < length w.sites → Contains (asked p rs) (unfold_site w.sites s) ⊎ IsField (unfold_site w.sites s)
  pub serves : Serves p w.meaning w.args rs
  pub args : (i : ℕ) → i < n → (v : Value) × (slice_get w.args i ≡ Some v) × IsWhole p.types v

-- such a world, with the program, the number of its term's arguments and the rules
pub record ServedWorld : Type 0 where
  pub program : Program
  pub arity : ℕ
  pub rules : List TypedRule
  pub world : World
  pub served : IsServed program arity rules world

module _ (stage : ServedWorld) (k : Pick) where
  abbrev p : Program
  p = stage.program

  abbrev n : ℕ
  n = stage.arity

  abbrev rs : List TypedRule
  rs = stage.rules

  abbrev w : World
  w = stage.world

  abbrev h : IsServed p n rs w
  h = stage.served

  abbrev U : ℕ → SiteTerm
  U = unfold_site w.sites

  -- what the site holds fits each form that it has
  abbrev pub Fit : ℕ → Type 0
  Fit s = (q : Form) → IsOfForm p n (U s) q → (c : Content) → content_at w k s ≡ Some c → FitsForm p.types q c

  -- a site that makes no impure call, or whose call is answered where its arguments have values; and so are all below a site
  abbrev pub IsAnsweredSite : Site → Type 0
  IsAnsweredSite (constructor_site t ss (suc i)) = (vs : Values) → site_values w.meaning w.args k (each_term U ss) ≡ Some vs → IsSomeAnd (impure_answer w.meaning t i) (λ c. IsTrue (fits_constructor p t (kind p t) c))
  IsAnsweredSite _ = Unit {0}

  abbrev pub IsAnsweredBelow : ℕ → Type 0
  IsAnsweredBelow s = (u : ℕ) → Contains (below (suc s) w.sites s) u → (b : Site) × (slice_get w.sites u ≡ Some b) × IsAnsweredSite b

  pure_answered : (b : Site) → IsPureSite b → IsAnsweredSite b
  pure_answered b h = grind (arith, common_steps)

  pure_below_answered : (s : ℕ) → IsPureBelow w.sites s → IsAnsweredBelow s
  pure_below_answered s pure u c = let a = pure u c in (a.0, a.1, pure_answered a.0 a.2)

  values_fit : (ss : List ℕ) → ((a : ℕ) → Contains ss a → Fit a) → AreValues p n (each_term U ss) → (vs : Values) → site_values w.meaning w.args k (each_term U ss) ≡ Some vs
      → AreWhole p.types vs × (length (listed vs) ≡ term_count (each_term U ss))
  values_fit [] f g vs e = subst (λ us. AreWhole p.types us × (length (listed us) ≡ 0)) (some_is no_value vs e) (tt, refl)
  values_fit (s ∷ ss) f g vs e =
      let a = from_then (then_option (content_at w k s) as_value) (λ v. then_option (site_values w.meaning w.args k (each_term U ss)) (λ us. Some (value_and v us))) vs e in
      let b = from_then (site_values w.meaning w.args k (each_term U ss)) (λ us. Some (value_and a.0 us)) vs a.2 in
      let x = f s (in_head s ss) a_value g.0 (one a.0) (is_value (content_at w k s) a.0 a.1) in
      let r = values_fit ss (λ u c. f u (in_tail s u ss c)) g.1 b.0 b.1 in
      subst (λ us. AreWhole p.types us × (length (listed us) ≡ suc (term_count (each_term U ss)))) (some_is (value_and a.0 b.0) vs b.2) ((x.1, r.0), ap suc r.1)

  values_there : (ss : List ℕ) → ((a : ℕ) → Contains ss a → Fit a) → AreValues p n (each_term U ss) → ((a : ℕ) → Contains ss a → IsTrue (is_some (content_at w k a)))
      → (vs : Values) × (site_values w.meaning w.args k (each_term U ss) ≡ Some vs)
  values_there [] f g t = (no_value, refl)
  values_there (s ∷ ss) f g t =
      let a = there_is (content_at w k s) (t s (in_head s ss)) in
      let v = the_value p.types a.0 (f s (in_head s ss) a_value g.0 a.0 a.1) in
      let r = values_there ss (λ u c. f u (in_tail s u ss c)) g.1 (λ u c. t u (in_tail s u ss c)) in (
        value_and v.0 r.0,
        ap (λ o. then_option (then_option o as_value) (λ x. then_option (site_values w.meaning w.args k (each_term U ss)) (λ us. Some (value_and x us)))) (a.1 ∙ ap Some v.1)
            ∙ ap (λ o. then_option o (λ us. Some (value_and v.0 us))) r.1,
      )

  call_fits : (o : Option Content) (f : Content → Bool) → IsSomeAnd o (λ c. IsTrue (f c)) → (c : Content) → o ≡ Some c → f c ≡ true
  call_fits o f s c e = subst (λ x. IsSomeAnd x (λ y. IsTrue (f y))) e s

  site_fits : (b : Site) → IsAnsweredSite b → Contains (asked p rs) (layer U b) ⊎ IsField (layer U b) → ((a : ℕ) → Contains (sources_of b) a → Fit a)
      → (q : Form) → IsOfForm p n (layer U b) q → (c : Content) → site_content w.meaning w.args k (layer U b) ≡ Some c → FitsForm p.types q c
  site_fits (bool_site x ty) pure ask fit q f c e = grind (arith, common_steps, value_fits, typed_whole, only_asked)
  site_fits (int_site z ty) pure ask fit q f c e = grind (arith, common_steps, value_fits, typed_whole, only_asked)
  site_fits (prim_site name) pure ask fit q f c e = grind (arith, common_steps, value_fits, constant_whole, only_asked)
  site_fits (argument_site i) pure ask fit q f c e =
      let a = h.args i f.0 in
      let b = from_value_is (slice_get w.args i) c e in
      subst (λ y. FitsForm p.types y c) (sym f.1) (subst (FitsForm p.types a_value) (sym b.2) (refl, subst (IsWhole p.types) (some_is a.0 b.0 (sym a.1 ∙ b.1)) a.2))
  site_fits (extractor_site t source) pure ask fit q f c e =
      let a = from_then (then_option (content_at w k source) as_value) (extractor_answer w.meaning t) c e in
      let s = h.serves.extractors k t (U source) a.0 (only_asked ask) (is_value (content_at w k source) a.0 a.1) in
      subst (λ y. FitsForm p.types y c) (sym f.2) (extractor_fits p t f.0 c (call_fits (extractor_answer w.meaning t a.0) (fits_extractor p t (kind p t)) s c a.2))
  site_fits (constructor_site t ss zero) pure ask fit q f c e =
      let a = from_then (site_values w.meaning w.args k (each_term U ss)) (call_answer w.meaning t 0) c e in
      let s = h.serves.pures k t (each_term U ss) a.0 (only_asked ask) a.1 in
      subst (λ y. FitsForm p.types y c) (sym f.2) (constructor_fits p t f.0 c (call_fits (pure_answer w.meaning t a.0) (fits_constructor p t (kind p t)) s c a.2))
  site_fits (constructor_site t ss (suc i)) pure ask fit q f c e =
      let a = from_then (site_values w.meaning w.args k (each_term U ss)) (call_answer w.meaning t (suc i)) c e in
      subst (λ y. FitsForm p.types y c) (sym f.2) (constructor_fits p t f.0 c (call_fits (impure_answer w.meaning t i) (fits_constructor p t (kind p t)) (pure a.0 a.1) c a.2))
  site_fits (iterator_site source) pure ask fit q f c e =
      let a = from_then (content_at w k source) (picked k (U source)) c e in
      subst (λ y. FitsForm p.types y c) (sym f.3) (picked_fits_as p.types f.0 f.1 k (U source) a.0 c (fit source (in_head source []) (form true f.0 f.1) f.2 a.0 a.1) a.2)
  site_fits (make_variant_site ty i ss) pure ask fit q f c e =
      let a = from_then (site_values w.meaning w.args k (each_term U ss)) (λ vs. Some (one (of_variant ty i vs))) c e in
      let r = values_fit ss fit f.3 a.0 a.1 in
      subst (λ y. FitsForm p.types y c) (sym f.4) (subst (FitsForm p.types a_value) (some_is (one (of_variant ty i a.0)) c a.2) (refl, ((f.0, f.1, r.1 ∙ f.2), r.0)))
  site_fits (match_variant_site source variant i) pure ask fit q f c e =
      let a = from_then (then_option (content_at w k source) as_value) (field_of_variant variant i) c e in
      let v = fit source (in_head source []) a_value f.0 (one a.0) (is_value (content_at w k source) a.0 a.1) in
      subst (λ y. FitsForm p.types y c) (sym f.1) (variant_field_fits p.types variant i a.0 c v.1 a.2)
  site_fits (make_struct_site ty ss) pure ask fit q f c e =
      let a = from_then (site_values w.meaning w.args k (each_term U ss)) (λ vs. Some (one (of_struct ty vs))) c e in
      let r = values_fit ss fit f.3 a.0 a.1 in
      subst (λ y. FitsForm p.types y c) (sym f.4) (subst (FitsForm p.types a_value) (some_is (one (of_struct ty a.0)) c a.2) (refl, ((f.0, f.1, r.1 ∙ f.2), r.0)))
  site_fits (extract_struct_site source i) pure ask fit q f c e =
      let a = from_then (then_option (content_at w k source) as_value) (field_of_struct i) c e in
      let v = fit source (in_head source []) a_value f.0 (one a.0) (is_value (content_at w k source) a.0 a.1) in
      subst (λ y. FitsForm p.types y c) (sym f.1) (struct_field_fits p.types i a.0 c v.1 a.2)
  site_fits (make_some_site source) pure ask fit q f c e =
      let a = from_then (content_at w k source) (λ x. Some (just x)) c e in
      subst (λ y. FitsForm p.types y c) (sym f.2) (subst (FitsForm p.types (form false true f.0)) (some_is (just a.0) c a.2) (fit source (in_head source []) (form false false f.0) f.1 a.0 a.1))
  site_fits (match_some_site source) pure ask fit q f c e =
      let a = from_then (content_at w k source) part_of_some c e in
      subst (λ y. FitsForm p.types y c) (sym f.2) (some_part_fits p.types f.0 a.0 c (fit source (in_head source []) (form false true f.0) f.1 a.0 a.1) a.2)
  site_fits (match_tuple_site source i) pure ask fit q f c e =
      let a = from_then (content_at w k source) (λ x. part_at x i) c e in
      subst (λ y. FitsForm p.types y c) (sym f.3) (tuple_part_fits p.types f.0 i a.0 c (fit source (in_head source []) (form false false (suc (suc f.0))) f.1 a.0 a.1) a.2)

  asked_layer : (s : ℕ) (b : Site) → slice_get w.sites s ≡ Some b → Contains (asked p rs) (layer U b) ⊎ IsField (layer U b)
  asked_layer s b at = subst (λ u. Contains (asked p rs) u ⊎ IsField u) (unfolded_layer w.sites h.before s b at) (h.asks s (slice_get_within w.sites s b at))

  answered_source : (s a : ℕ) → IsAnsweredBelow s → Contains (sources_at w.sites s) a → IsAnsweredBelow a
  answered_source s a pure c u i = pure u (below_source w.sites s s a u c (subst (λ l. Contains l u) (sym (below_enough w.sites h.before s a (h.before s a c))) i))

  source_of : (s : ℕ) (b : Site) → slice_get w.sites s ≡ Some b → (a : ℕ) → Contains (sources_of b) a → Contains (sources_at w.sites s) a
  source_of s b at a c = subst (λ o. Contains (sources_in o) a) (sym at) c

  fits_below : (d s : ℕ) → s < d → IsAnsweredBelow s → Fit s
  fits_below zero s l pure q f c e = absurd (omega (arith, l))
  fits_below (suc d) s l pure q f c e =
      let a = pure s (below_itself w.sites s) in
      site_fits a.0 a.2 (asked_layer s a.0 a.1)
      (λ x k. let m = source_of s a.0 a.1 x k in let less = h.before s x m in fits_below d x (omega (arith, l, less)) (answered_source s x pure m))
      q (subst (λ t. IsOfForm p n t q) (unfolded_layer w.sites h.before s a.0 a.1) f) c (sym (content_layer w k h.before s a.0 a.1) ∙ e)

  pub fits_if_answered : (s : ℕ) → IsAnsweredBelow s → Fit s
  fits_if_answered s = fits_below (suc s) s (omega arith)

  pub fits : (s : ℕ) → IsPureBelow w.sites s → Fit s
  fits s pure = fits_if_answered s (pure_below_answered s pure)

  -- 4. and something is there
  site_there : (b : Site) → IsAnsweredSite b → waits (Some b) ≡ false → Contains (asked p rs) (layer U b) ⊎ IsField (layer U b) → ((a : ℕ) → Contains (sources_of b) a → Fit a) → ((a : ℕ) → Contains (sources_of b) a → IsTrue (is_some (content_at w k a)))
      → (q : Form) → IsOfForm p n (layer U b) q → IsTrue (is_some (site_content w.meaning w.args k (layer U b)))
  site_there (bool_site x ty) pure wait ask fit t q f = (let a = some_and (literal_value w.meaning (bool_literal x ty)) _ (h.serves.bools x ty (only_asked ask)) in ap (λ o. is_some (from_value o)) a.1)
  site_there (int_site z ty) pure wait ask fit t q f = (let a = some_and (literal_value w.meaning (int_literal z ty)) _ (h.serves.ints z ty (only_asked ask)) in ap (λ o. is_some (from_value o)) a.1)
  site_there (prim_site name) pure wait ask fit t q f = (let a = some_and (constant_value w.meaning name) _ (h.serves.prims name (only_asked ask)) in ap (λ o. is_some (from_value o)) a.1)
  site_there (argument_site i) pure wait ask fit t q f = (let a = h.args i f.0 in ap (λ o. is_some (from_value o)) a.1)
  site_there (extractor_site x source) pure wait ask fit t q f =
      let a = there_is (content_at w k source) (t source (in_head source [])) in
      let v = the_value p.types a.0 (fit source (in_head source []) a_value f.1 a.0 a.1) in
      let e : content_at w k source ≡ Some (one v.0) = a.1 ∙ ap Some v.1 in
      let s = some_and (extractor_answer w.meaning x v.0) _ (h.serves.extractors k x (U source) v.0 (only_asked ask) e) in
      ap (λ o. is_some (then_option (then_option o as_value) (extractor_answer w.meaning x))) e ∙ ap is_some s.1
  site_there (constructor_site x ss zero) pure wait ask fit t q f =
      let a = values_there ss fit f.1 t in
      let s = some_and (pure_answer w.meaning x a.0) _ (h.serves.pures k x (each_term U ss) a.0 (only_asked ask) a.1) in
      ap (λ o. is_some (then_option o (call_answer w.meaning x 0))) a.1 ∙ ap is_some s.1
  site_there (constructor_site x ss (suc i)) pure wait ask fit t q f = grind (arith, common_steps, values_there, some_and)
  site_there (make_variant_site ty i ss) pure wait ask fit t q f = (let a = values_there ss fit f.3 t in ap (λ o. is_some (then_option o (λ vs. Some (one (of_variant ty i vs))))) a.1)
  site_there (make_struct_site ty ss) pure wait ask fit t q f = (let a = values_there ss fit f.3 t in ap (λ o. is_some (then_option o (λ vs. Some (one (of_struct ty vs))))) a.1)
  site_there (make_some_site source) pure wait ask fit t q f = (let a = there_is (content_at w k source) (t source (in_head source [])) in ap (λ o. is_some (then_option o (λ c. Some (just c)))) a.1)
  site_there (match_tuple_site source i) pure wait ask fit t q f =
      let a = there_is (content_at w k source) (t source (in_head source [])) in
      ap (λ o. is_some (then_option o (λ c. part_at c i))) a.1 ∙ tuple_part_there p.types f.0 i a.0 (fit source (in_head source []) (form false false (suc (suc f.0))) f.1 a.0 a.1) f.2
  site_there (iterator_site source) pure wait ask fit t q f = absurd (false≢true (sym wait))
  site_there (match_variant_site source variant i) pure wait ask fit t q f = absurd (false≢true (sym wait))
  site_there (extract_struct_site source i) pure wait ask fit t q f = absurd (false≢true (sym wait))
  site_there (match_some_site source) pure wait ask fit t q f = absurd (false≢true (sym wait))

  pub found_answered : (s : ℕ) → IsAnsweredBelow s → waits (slice_get w.sites s) ≡ false → ((a : ℕ) → Contains (sources_at w.sites s) a → IsTrue (is_some (content_at w k a))) → IsTrue (is_some (content_at w k s))
  found_answered s pure wait t =
      let a = pure s (below_itself w.sites s) in
      let f = h.forms s (slice_get_within w.sites s a.0 a.1) in
      ap is_some (content_layer w k h.before s a.0 a.1)
      ∙ site_there a.0 a.2 (sym (ap waits a.1) ∙ wait) (asked_layer s a.0 a.1) (λ x c. fits_if_answered x (answered_source s x pure (source_of s a.0 a.1 x c))) (λ x c. t x (source_of s a.0 a.1 x c))
      f.0 (subst (λ u. IsOfForm p n u f.0) (unfolded_layer w.sites h.before s a.0 a.1) f.1)

  pub found : (s : ℕ) → IsPureBelow w.sites s → waits (slice_get w.sites s) ≡ false → ((a : ℕ) → Contains (sources_at w.sites s) a → IsTrue (is_some (content_at w k a))) → IsTrue (is_some (content_at w k s))
  found s pure wait t = found_answered s (pure_below_answered s pure) wait t

  -- what is unwrapped answers nothing, or something
  pub unwraps_maybe : (s source : ℕ) → IsAnsweredBelow s → slice_get w.sites s ≡ Some (match_some_site source) → (c : Content) → content_at w k source ≡ Some c → (c ≡ nothing) ⊎ ((d : Content) × (c ≡ just d))
  unwraps_maybe s source pure at c e =
      let f = h.forms s (slice_get_within w.sites s (match_some_site source) at) in
      let g = subst (λ u. IsOfForm p n u f.0) (unfolded_layer w.sites h.before s (match_some_site source) at) f.1 in
      by g.0 c (fits_if_answered source (answered_source s source pure (source_of s (match_some_site source) at source (in_head source []))) (form false true g.0) g.1 c e)
    where
      by : (count : ℕ) (c : Content) → FitsAs p.types false true count c → (c ≡ nothing) ⊎ ((d : Content) × (c ≡ just d))
      by count nothing k = inl refl
      by count (just d) k = inr (d, refl)
      by count (one v) k = absurd k
      by count (parts vs) k = absurd k
      by count (many cs) k = absurd k
