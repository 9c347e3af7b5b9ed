-- The contents of sites under a pick, by the answers that a meaning gives: values of types, and the outputs of calls.
use Rattle.std.proofs.Common.{◌≡◌, ◌⊎◌, ℕ, ℤ, suc, ◌+◌, Bool, true, false, List, [], ◌∷◌, Option, Some, None, slice_get, refl, sym, ap, subst, ◌∙◌, arith}
use Rattle.std.proofs.lemmas.Bool.{and_parts, false≢true}
use Rattle.std.specs.List.{list_all}
use Rattle.std.proofs.lemmas.Grind.{common_steps}
use Rattle.model.specs.lists.Tables.{Flags, TermEntry}
use Rattle.model.specs.rules.Values.{Value, Values, no_value, value_and, listed, well_typed, all_well_typed}
use Rattle.model.specs.rules.Meaning.{Content, one, parts, nothing, just, many, contents, Meaning, bool_literal, int_literal, literal_value, constant_value, extractor_answer, pure_answer, outputs, answered_outputs}
use Rattle.model.specs.rules.Outcome.{then_option}
use Rattle.model.specs.rules.Program.{Program, a_call, kind}
use Rattle.model.specs.rules.Typed.{TypedPatterns, no_typed_pattern, typed_pattern_and}
use Rattle.model.specs.rules.Picks.{Pick, picked, site_content, site_values}
use Rattle.model.specs.trees.Run.{as_value, from_value, part_at}
use Rattle.model.specs.sites.Sites.{SiteTerm, bool_term, int_term, prim_term, extractor_call, constructor_call, pick_of, tuple_part, SiteTerms, fields_from}
use Rattle.model.specs.visits.Demands.{Demands, output_sites, pattern_count}
use Rattle.model.specs.sites.Serves.{constant_type, fits_one, fits_answer, fits_extractor, fits_constructor}
use Rattle.laws_sites.proofs.PatternParts.{AsMany}
use Rattle.model.proofs.Elements.{In, in_slice, all_in, some_is, none_some}

-- a program, a meaning, arguments and a pick
pub record Given : Type 0 where
  pub program : Program
  pub meaning : Meaning
  pub args : List Value
  pub pick : Pick

abbrev pub content_of : Given → SiteTerm → Option Content
content_of g s = site_content g.meaning g.args g.pick s

abbrev pub value_of : Given → SiteTerm → Option Value
value_of g s = then_option (content_of g s) as_value

abbrev pub values_of : Given → SiteTerms → Option Values
values_of g ss = site_values g.meaning g.args g.pick ss

-- a site has this value, which is of this type
pub record Here (g : Given) (s : SiteTerm) (ty : ℕ) (v : Value) : Type 0 where
  pub content : content_of g s ≡ Some (one v)
  pub typed : well_typed g.program.types ty v ≡ true

-- each site has its value, at its type
abbrev pub AreHere : Given → List SiteTerm → List ℕ → Values → Type 0
AreHere g [] [] no_value = Unit {0}
AreHere g (s ∷ ss) (ty ∷ tys) (value_and v vs) = Here g s ty v × AreHere g ss tys vs
AreHere g _ _ _ = ⊥

-- there is a value, of this type
pub record IsValueOf (g : Given) (ty : ℕ) (o : Option Value) : Type 0 where
  pub value : Value
  pub there : o ≡ Some value
  pub typed : well_typed g.program.types ty value ≡ true

-- an answer that fits
pub record Fits (o : Option Content) (fits : Content → Bool) : Type 0 where
  pub answer : Content
  pub there : o ≡ Some answer
  pub right : fits answer ≡ true

-- what a meaning gives to the sites of demands: literals and constants have values of their types, calls have answers of
-- the right form where their arguments have values, and of each call that is gone over the pick takes an answer
pub record IsAnswered (g : Given) (d : Demands) : Type 0 where
  pub bools : (b : Bool) (ty : ℕ) → In d.made (bool_term b ty) → IsValueOf g ty (literal_value g.meaning (bool_literal b ty))
  pub ints : (z : ℤ) (ty : ℕ) → In d.made (int_term z ty) → IsValueOf g ty (literal_value g.meaning (int_literal z ty))
  pub prims : (name ty : ℕ) → In d.made (prim_term name) → constant_type g.program name ≡ Some ty → IsValueOf g ty (constant_value g.meaning name)
  pub extractors : (t : ℕ) (s : SiteTerm) (v : Value) → In d.made (extractor_call t s) → content_of g s ≡ Some (one v)
      → Fits (extractor_answer g.meaning t v) (fits_extractor g.program t (kind g.program t))
  pub pures : (t : ℕ) (ss : SiteTerms) (vs : Values) → In d.made (constructor_call t ss 0) → values_of g ss ≡ Some vs
      → Fits (pure_answer g.meaning t vs) (fits_constructor g.program t (kind g.program t))
  pub picks : (call : SiteTerm) → In d.iterators call → (c : Content) × (content_of g (pick_of call) ≡ Some c)

-- 1. contents and values
pub is_value : (o : Option Content) (v : Value) → then_option o as_value ≡ Some v → o ≡ Some (one v)
is_value o v e = grind (arith, common_steps, none_some, some_is)

pub has_value : (g : Given) (s : SiteTerm) (v : Value) → content_of g s ≡ Some (one v) → value_of g s ≡ Some v
has_value g s v e = ap (λ o. then_option o as_value) e

-- 2. answers that fit
pub one_fits : (p : Program) (ty : ℕ) (c : Content) → fits_one p (ty ∷ []) c ≡ true → (v : Value) × (c ≡ one v) × (well_typed p.types ty v ≡ true)
one_fits p ty c h = grind (arith, common_steps)

pub maybe_fits : (p : Program) (tys : List ℕ) (c : Content) → fits_answer p false true tys c ≡ true → (c ≡ nothing) ⊎ ((d : Content) × (c ≡ just d) × (fits_one p tys d ≡ true))
maybe_fits p tys c h = grind (arith, common_steps)

place_fits : (p : Program) (tys : List ℕ) (o : Option ℕ) (cs d : _) → list_all (fits_one p tys) (contents cs) ≡ true → then_option o (slice_get (contents cs)) ≡ Some d → fits_one p tys d ≡ true
place_fits p tys None cs d h e = absurd (none_some d e)
place_fits p tys (Some n) cs d h e = all_in (fits_one p tys) (contents cs) d h (in_slice (contents cs) n d e)

pub picked_fits : (p : Program) (optional : Bool) (tys : List ℕ) (k : Pick) (s : SiteTerm) (c d : Content) → fits_answer p true optional tys c ≡ true → picked k s c ≡ Some d → fits_one p tys d ≡ true
picked_fits p optional tys k s c d h e = grind (arith, common_steps, place_fits, none_some)

-- what fits a term's constructor fits its flags and its result
pub constructor_fits : (p : Program) (t : ℕ) (x : TermEntry) → slice_get p.terms t ≡ Some x → (flags : Flags) (infallible : Bool) (c : Content) → kind p t ≡ a_call flags infallible
    → fits_constructor p t (kind p t) c ≡ true → fits_answer p flags.multi flags.partial (x.ret_ty ∷ []) c ≡ true
constructor_fits p t x there flags infallible c q f = grind (arith, common_steps)

-- what fits is answered as what it puts out
pub fits_answered : (p : Program) (tys : List ℕ) (d : Content) → fits_one p tys d ≡ true → answered_outputs d ≡ outputs d
fits_answered p tys d h = grind (arith, common_steps)

-- 3. sites of several values
pub fields_here : (g : Given) (f : ℕ → SiteTerm) (i : ℕ) (qs : TypedPatterns) (tys : List ℕ) (vs : Values) → AsMany qs tys → all_well_typed g.program.types (Some tys) vs ≡ true
    → ((j : ℕ) (v : Value) → slice_get (listed vs) j ≡ Some v → content_of g (f (i + j)) ≡ Some (one v)) → AreHere g (fields_from f i (pattern_count qs)) tys vs
fields_here g f i no_typed_pattern [] no_value n h c = tt
fields_here g f i no_typed_pattern [] (value_and v vs) n h c = absurd (false≢true h)
fields_here g f i no_typed_pattern (ty ∷ tys) vs n h c = absurd n
fields_here g f i (typed_pattern_and q qs) [] vs n h c = absurd n
fields_here g f i (typed_pattern_and q qs) (ty ∷ tys) no_value n h c = absurd (false≢true h)
fields_here g f i (typed_pattern_and q qs) (ty ∷ tys) (value_and v vs) n h c =
    let a = and_parts (well_typed g.program.types ty v) (all_well_typed g.program.types (Some tys) vs) h in
    let same : i + 0 ≡ i = omega arith in (
      record { content = subst (λ j. content_of g (f j) ≡ Some (one v)) same (c 0 v refl); typed = a.0 },
      fields_here g f (suc i) qs tys vs n a.1 (λ j w e. let next : i + suc j ≡ suc i + j = omega arith in subst (λ l. content_of g (f l) ≡ Some (one w)) next (c (suc j) w e)),
    )

-- the outputs of a content that fits
pub record PutOut (g : Given) (s : SiteTerm) (qs : TypedPatterns) (tys : List ℕ) (d : Content) : Type 0 where
  pub values : Values
  pub out : outputs d ≡ Some values
  pub here : AreHere g (output_sites s qs) tys values

several_out : (g : Given) (s : SiteTerm) (q r : _) (rs : TypedPatterns) (ty u : ℕ) (tys : List ℕ) (d : Content) → AsMany rs tys → fits_one g.program (ty ∷ (u ∷ tys)) d ≡ true → content_of g s ≡ Some d
    → PutOut g s (typed_pattern_and q (typed_pattern_and r rs)) (ty ∷ (u ∷ tys)) d
several_out g s q r rs ty u tys (parts vs) n h e = record {
  values = vs;
  out = refl;
  here = fields_here g (tuple_part s) 0 (typed_pattern_and q (typed_pattern_and r rs)) (ty ∷ (u ∷ tys)) vs n h
      (λ j v i. (let same : 0 + j ≡ j = omega arith in subst (λ l. content_of g (tuple_part s l) ≡ Some (one v)) (sym same) (ap (λ o. then_option o (λ c. part_at c j)) e ∙ ap from_value i)));
}
several_out g s q r rs ty u tys (one v) n h e = absurd (false≢true h)
several_out g s q r rs ty u tys nothing n h e = absurd (false≢true h)
several_out g s q r rs ty u tys (just c) n h e = absurd (false≢true h)
several_out g s q r rs ty u tys (many cs) n h e = absurd (false≢true h)

none_out : (g : Given) (s : SiteTerm) (d : Content) → fits_one g.program [] d ≡ true → PutOut g s no_typed_pattern [] d
none_out g s (parts no_value) h = record { values = no_value; out = refl; here = tt }
none_out g s (parts (value_and v vs)) h = absurd (false≢true h)
none_out g s (one v) h = absurd (false≢true h)
none_out g s nothing h = absurd (false≢true h)
none_out g s (just c) h = absurd (false≢true h)
none_out g s (many cs) h = absurd (false≢true h)

pub put_out : (g : Given) (s : SiteTerm) (qs : TypedPatterns) (tys : List ℕ) (d : Content) → AsMany qs tys → fits_one g.program tys d ≡ true → content_of g s ≡ Some d → PutOut g s qs tys d
put_out g s no_typed_pattern [] d n h e = none_out g s d h
put_out g s no_typed_pattern (ty ∷ tys) d n h e = absurd n
put_out g s (typed_pattern_and q qs) [] d n h e = absurd n
put_out g s (typed_pattern_and q no_typed_pattern) (ty ∷ []) d n h e =
    let a = one_fits g.program ty d h in
    record { values = value_and a.0 no_value; out = ap outputs a.1; here = (record { content = e ∙ ap Some a.1; typed = a.2 }, tt) }
put_out g s (typed_pattern_and q no_typed_pattern) (ty ∷ (u ∷ tys)) d n h e = absurd n
put_out g s (typed_pattern_and q (typed_pattern_and r rs)) (ty ∷ []) d n h e = absurd n
put_out g s (typed_pattern_and q (typed_pattern_and r rs)) (ty ∷ (u ∷ tys)) d n h e = several_out g s q r rs ty u tys d n h e
