-- The text of samples; near ones that aren't read; and code that is written alike.
--   (type E (enum (A (x u32)) (B (e E) (x u32))))
--   (type S (enum N (P i8 E)))
--   (decl pick (E) E)
--   (extern constructor pick pick)
--   (decl multi all (E) E)
--   (extern constructor all all)
--   (decl same (E) E)
--   (extern constructor same pick)
use Rattle.std.specs.Prelude.{◌≡◌, ◌++◌, ◌∷◌, [], ◌==◌, ◌&&◌, ℕ, suc, ℤ, pos, negsuc, Bool, true, false, List, Some, None, if◌then◌else◌, codes, decimal}
use Rattle.model.specs.sites.Sites.{is_variant, is_int, is_prim, is_present}
use Rattle.model_code.specs.Code.{variable, int_written, cloned, seen_through, truth_written, call, Block, no_statement, statement, bind, bind_some, match_on, if_equal, for_each_of, give, labelled, unless_let, unless_equal, no_code_arm, code_arm}
use Rattle.model_code.specs.Samples.{use_of, plain, arg0, is_b, somewhere, code, one_statement}
use Rattle.model_code.specs.Tokens.{Word, let_word, ref_word, if_word, break_word, underscore, arrow, match_word, closing_brace, opening_brace, comma, colon, equals, equal_to, unlike, two_dots, ampersand, Owner, variant_owner, struct_owner, Token, word, variable_name, parameter_name, constant_name, owner_name, field_name, label_name}
use Rattle.model_code.specs.Notation.{Notation, ReturnForm, gives_one, gives_option, gives_many, Shape, no_fields, named_fields, unnamed_fields, Callee, extractor_of, constructor_of}
use Rattle.model_code.specs.Written.{code_tokens, shown_code, function_body}
use Rattle.model_code.specs.Reading.{TokenReading}
use Rattle.model_code.specs.ReadsBack.{writable, read_code}
use Rattle.model_code.specs.Spelling.{Names, spelled}

-- E is type 1, S type 4, u32 type 2, i8 type 3
abbrev pub variant_shape : (ty variant : ℕ) → Shape
variant_shape ty variant =
    if ty == 1 then (if variant == 0 then named_fields 1 else named_fields 2) else (if variant == 0 then no_fields else unnamed_fields 2)

abbrev pub shape_of : Owner → Shape
shape_of (variant_owner ty variant) = variant_shape ty variant
shape_of (struct_owner ty) = no_fields

abbrev pub holds_e : Owner → ℕ → Bool
holds_e (variant_owner ty variant) i = if ty == 1 then (variant == 1) && (i == 0) else i == 1
holds_e (struct_owner ty) i = false

abbrev pub number_of : Callee → ℕ
number_of (extractor_of term) = 9
number_of (constructor_of term) = if term == 1 then 1 else 0

abbrev pub notation : ReturnForm → Notation
notation kind = record {
  kind = kind;
  is_logged = false;
  shape = shape_of;
  is_field_composed = holds_e;
  is_constant_composed = λ name. name == 1;
  gives_composed = λ f. true;
  has_many = λ f. number_of f == 1;
  function = number_of;
  list = λ f. Some (number_of f);
  ending = λ ty. if ty == 2 then 1 else if ty == 3 then 2 else 0;
}

abbrev pub owner_text : Owner → List ℕ
owner_text (variant_owner ty variant) = if ty == 1 then (if variant == 0 then codes "E::A" else codes "E::B") else (if variant == 0 then codes "S::N" else codes "S::P")
owner_text (struct_owner ty) = codes "T"

abbrev pub field_text : Owner → ℕ → List ℕ
field_text (variant_owner ty variant) i = if (variant == 1) && (i == 0) then codes "e" else codes "x"
field_text (struct_owner ty) i = codes "x"

abbrev pub number_text : ℤ → ℕ → List ℕ
number_text (pos n) ending = decimal n ++ (if ending == 1 then codes "_u32" else if ending == 2 then codes "_i8" else [])
number_text (negsuc n) ending = codes "-" ++ decimal (suc n)

abbrev pub names : Names
names = record {
  owner = owner_text;
  field = field_text;
  function = λ f. if f == 0 then codes "C::pick" else codes "C::all";
  list = λ l. codes "C::all_returns::default()";
  constant = λ name. codes "X";
  number = number_text;
  panic = codes "unreachable!(..)";
  place = λ at. codes "a.isle line 7";
  log = λ at. [];
}

abbrev pub below : List ℕ → List ℕ → List ℕ
below line rest = line ++ (10 ∷ rest)

abbrev pub text_of : ReturnForm → Block → List ℕ
text_of kind code = spelled names (function_body (notation kind) code)

-- the sample of code
abbrev pub code_text : List ℕ
code_text =
    below (codes "    if let &E::A { x: v1 } = arg0 {")
    (below (codes "        let v2 = &C::pick(ctx, arg0);")
    (below (codes "        let v3 = E::B { e: v2.clone(), x: v1 };")
    (below (codes "        // Rule at a.isle line 7.")
    (below (codes "        return v3;")
    (below (codes "    }")
    (below (codes "    unreachable!(..)")
    (below (codes "}") [])))))))

-- a multi term: a call with many answers, a loop over them, arms of several kinds, and a result behind each
abbrev pub given : ℕ → Block
given v = one_statement (give somewhere (plain v))

abbrev pub many : Block
many =
    statement (bind 1 (call 1 (arg0 ∷ []) 0))
    (statement (for_each_of 2 1
    (statement (match_on (plain 2)
    (code_arm is_b (Some 3 ∷ (None ∷ [])) (statement (give somewhere (use_of (variable 3) cloned)) no_statement)
    (code_arm (is_prim 0) [] (given 4)
    (code_arm (is_variant 4 1 2) (None ∷ (Some 5 ∷ [])) (given 5) no_code_arm))))
    (statement (if_equal (use_of (variable 2) seen_through) (plain 4) no_statement) no_statement))) no_statement)

abbrev pub many_text : List ℕ
many_text =
    below (codes "    let mut v1 = C::all_returns::default();")
    (below (codes "    C::all(ctx, arg0, &mut v1);")
    (below (codes "    let mut v1 = v1.into_context_iter();")
    (below (codes "    while let Some(v2) = v1.next(ctx) {")
    (below (codes "        match v2 {")
    (below (codes "            &E::B { e: ref v3, .. } => {")
    (below (codes "                // Rule at a.isle line 7.")
    (below (codes "                returns.extend(Some(v3.clone()));")
    (below (codes "                if returns.len() >= MAX_ISLE_RETURNS { return; }")
    (below (codes "            }")
    (below (codes "            _ if v2 == X => {")
    (below (codes "                // Rule at a.isle line 7.")
    (below (codes "                returns.extend(Some(v4));")
    (below (codes "                if returns.len() >= MAX_ISLE_RETURNS { return; }")
    (below (codes "            }")
    (below (codes "            &S::P(_, ref v5) => {")
    (below (codes "                // Rule at a.isle line 7.")
    (below (codes "                returns.extend(Some(v5));")
    (below (codes "                if returns.len() >= MAX_ISLE_RETURNS { return; }")
    (below (codes "            }")
    (below (codes "            _ => {}")
    (below (codes "        }")
    (below (codes "        if *v2 == v4 {")
    (below (codes "        }")
    (below (codes "    }")
    (below (codes "}") [])))))))))))))))))))))))))

-- a partial term: a call that may give nothing, a label, and tests that leave it; labels that nothing leaves
abbrev pub leaving : Block
leaving =
    statement (bind_some 1 arg0)
    (statement (labelled
    (statement (unless_let arg0 is_present (Some 2 ∷ []))
    (statement (unless_let (plain 2) (is_int (pos 5) 2) [])
    (statement (unless_let (plain 3) (is_prim 1) [])
    (statement (unless_equal (plain 2) (use_of (int_written (negsuc 0) 9) cloned))
    (statement (labelled (statement (bind 4 (truth_written true 0)) no_statement))
    (statement (if_equal (plain 2) (plain 3) (one_statement (labelled (statement (bind 4 (truth_written false 0)) no_statement)))) no_statement))))))) no_statement)

abbrev pub leaving_text : List ℕ
leaving_text =
    below (codes "    let Some(v1) = arg0 else { return None };")
    (below (codes "    'at1: {")
    (below (codes "        let Some(v2) = arg0 else { break 'at1 };")
    (below (codes "        if v2 != 5_u32 { break 'at1 }")
    (below (codes "        if *v3 != X { break 'at1 }")
    (below (codes "        if v2 != -1.clone() { break 'at1 }")
    (below (codes "        {")
    (below (codes "            let v4 = true;")
    (below (codes "        }")
    (below (codes "        if v2 == v3 {")
    (below (codes "            let v4 = false;")
    (below (codes "        }")
    (below (codes "    }")
    (below (codes "    None")
    (below (codes "}") []))))))))))))))

-- what is read of tokens, in a function of each kind
abbrev pub read_as : ReturnForm → List Token → TokenReading Block
read_as kind tokens = read_code (notation kind) tokens

abbrev pub words : List Word → List Token → List Token
words [] rest = rest
words (w ∷ ws) rest = word w ∷ words ws rest

-- 'at1: { if v2 != v3 { break 'atN } }
abbrev pub break_of : ℕ → List Token
break_of n = label_name 1 ∷ words (colon ∷ opening_brace ∷ if_word ∷ []) (variable_name 2 ∷ word unlike ∷ variable_name 3 ∷ words (opening_brace ∷ break_word ∷ []) (label_name n ∷ words (closing_brace ∷ closing_brace ∷ []) []))

-- if let &E::B { e: ref v1 ENDS = arg0 {}
abbrev pub pattern_ending : List Word → List Token
pattern_ending ends = words (if_word ∷ let_word ∷ ampersand ∷ []) (owner_name (variant_owner 1 1) ∷ word opening_brace ∷ field_name (variant_owner 1 1) 0 ∷ words (colon ∷ ref_word ∷ []) (variable_name 1 ∷ words ends (word equals ∷ parameter_name 0 ∷ words (opening_brace ∷ closing_brace ∷ []) [])))

-- match v2 { _ if vN == X => {} _ => {} }
abbrev pub guard_with : ℕ → List Token
guard_with n = word match_word ∷ variable_name 2 ∷ words (opening_brace ∷ underscore ∷ if_word ∷ []) (variable_name n ∷ word equal_to ∷ constant_name 0 ∷ words (arrow ∷ opening_brace ∷ closing_brace ∷ underscore ∷ arrow ∷ opening_brace ∷ closing_brace ∷ closing_brace ∷ []) [])

abbrev pub wholly : TokenReading Block → Bool
wholly (Some (b, [])) = true
wholly r = false

-- v1 = C::f(ctx, arg0), by a constructor's number and the number of the call
abbrev pub called : (term instance : ℕ) → Block
called term instance = one_statement (bind 1 (call term (arg0 ∷ []) instance))

pub record SamplesAreWritten : Type 0 where
  pub code_written : text_of gives_one code ≡ code_text
  pub many_written : text_of gives_many many ≡ many_text
  pub leaving_written : text_of gives_option leaving ≡ leaving_text
  -- they can be written, and are read back
  pub code_writable : writable (notation gives_one) false code ≡ true
  pub many_writable : writable (notation gives_many) false many ≡ true
  pub leaving_writable : writable (notation gives_option) false leaving ≡ true
  pub code_read : read_as gives_one (code_tokens (notation gives_one) code) ≡ Some (shown_code (notation gives_one) code, [])
  pub many_read : read_as gives_many (code_tokens (notation gives_many) many) ≡ Some (shown_code (notation gives_many) many, [])
  pub leaving_read : read_as gives_option (code_tokens (notation gives_option) leaving) ≡ Some (shown_code (notation gives_option) leaving, [])
  -- near ones aren't: a label that isn't the next around, a pattern that leaves out a field without saying so, a guard that looks at
  -- something else
  pub label_next : wholly (read_as gives_one (break_of 1)) ≡ true
  pub label_other : wholly (read_as gives_one (break_of 2)) ≡ false
  pub fields_said : wholly (read_as gives_one (pattern_ending (comma ∷ two_dots ∷ closing_brace ∷ []))) ≡ true
  pub fields_unsaid : wholly (read_as gives_one (pattern_ending (closing_brace ∷ []))) ≡ false
  pub guard_same : wholly (read_as gives_one (guard_with 2)) ≡ true
  pub guard_other : wholly (read_as gives_one (guard_with 3)) ≡ false
  -- the text shows neither which of two terms is called that are one function, nor which call of its rule it is
  pub terms_alike : code_tokens (notation gives_one) (called 0 0) ≡ code_tokens (notation gives_one) (called 2 1)
  pub shown_alike : shown_code (notation gives_one) (called 0 0) ≡ shown_code (notation gives_one) (called 2 1)
