-- The pieces of forms that are written.
use Rattle.std.proofs.Common.{◌≡◌, ℕ, ◌+◌, ◌≤◌, ◌<◌, refl, sym, ap, ◌∙◌, inl, inr, List, [], ◌∷◌, ◌++◌, length, append_assoc, arith}
use Rattle.std.specs.Prelude.{ℤ, Bool, true, false, ◌==◌}
use Rattle.std.specs.List.{list_all}
use Rattle.std.specs.Fmt.{signed_decimal}
use Rattle.std.specs.Str.{chars, encode_utf8_all, IsAscii, IsUtf8}
use Rattle.std.proofs.lemmas.Bool.{true≢false, cases_Bool, eqb-true}
use Rattle.std.proofs.lemmas.Bool.Decides.{nat_tests}
use Rattle.std.proofs.lemmas.Str.{IsUtf8-from_is_utf8, IsUtf8-from_ascii, chars-IsAscii, chars-append, encodes-chars, length-le-encodes, byte_from_char}
use Rattle.std.proofs.lemmas.Grind.{common_steps}
use Rattle.model.specs.lists.Syntax.{Name}
use Rattle.text_reader.specs.FormTrees.{FormTree, a_word, a_number, a_constant, a_binding, a_list, FormTrees, no_form, form_and}
use Rattle.text_reader.specs.Pieces.{Piece, space, left, right, bind, name, sign, spelling, size, is_in_word, is_name, is_constant, ends_word, begins_with, Stands, AreIn}
use Rattle.text_writer.specs.Spellable.{begins_any_word, has_word_characters, is_word, is_any_word, is_some_text, is_constant_name, is_signed_128}
use Rattle.text_writer.specs.Texts.{written, parted, spaced}
use Rattle.text_writer.proofs.WordParts.{both, any_word_parts, constant_parts, character_parts, any_beginning_parts, any_beginning_some, nothing_begins_any, word_is_any}
use Rattle.text_writer.proofs.Fine.{is_fine, are_fine}
use Rattle.text_writer.proofs.Numbers.{number_characters, number_ascii, number_some, begins_as_number}

-- ---- the text of forms, before other text

abbrev mutual
  pub text : FormTree → List ℕ → List ℕ
  text (a_word n) rest = n.text ++ rest
  text (a_number z p) rest = signed_decimal z ++ rest
  text (a_constant n p) rest = 36 ∷ (n.text ++ rest)
  text (a_binding n f) rest = n.text ++ 32 ∷ 64 ∷ 32 ∷ text f rest
  text (a_list fs p e) rest = 40 ∷ parts_text fs (41 ∷ rest)

  pub parts_text : FormTrees → List ℕ → List ℕ
  parts_text no_form rest = rest
  parts_text (form_and f fs) rest = text f (more_text fs rest)

  pub more_text : FormTrees → List ℕ → List ℕ
  more_text no_form rest = rest
  more_text (form_and f fs) rest = 32 ∷ text f (more_text fs rest)

mutual
  pub text_written : (f : FormTree) (rest : List ℕ) → written f ++ rest ≡ text f rest
  text_written (a_binding n f) rest = grind (arith, common_steps, text_written f rest)
  text_written (a_list fs p e) rest = ap (λ t. 40 ∷ t) (append_assoc (parted fs) (41 ∷ []) rest ∙ text_parted fs (41 ∷ rest))
  text_written _ rest = refl

  pub text_parted : (fs : FormTrees) (rest : List ℕ) → parted fs ++ rest ≡ parts_text fs rest
  text_parted no_form rest = refl
  text_parted (form_and f fs) rest = append_assoc (written f) (spaced fs) rest ∙ ap (λ t. written f ++ t) (text_spaced fs rest) ∙ text_written f (more_text fs rest)

  pub text_spaced : (fs : FormTrees) (rest : List ℕ) → spaced fs ++ rest ≡ more_text fs rest
  text_spaced no_form rest = refl
  text_spaced (form_and f fs) rest = grind (arith, common_steps, text_spaced fs rest, text_written f)

-- ---- the pieces, and the offset behind them

abbrev mutual
  pub pieces : FormTree → List Piece → List Piece
  pieces (a_word n) after = name (chars n.text) ∷ after
  pieces (a_number z p) after = name (signed_decimal z) ∷ after
  pieces (a_constant n p) after = sign (chars n.text) ∷ after
  pieces (a_binding n f) after = name (chars n.text) ∷ space 32 ∷ bind ∷ space 32 ∷ pieces f after
  pieces (a_list fs p e) after = left ∷ parts_pieces fs (right ∷ after)

  pub parts_pieces : FormTrees → List Piece → List Piece
  parts_pieces no_form after = after
  parts_pieces (form_and f fs) after = pieces f (more_pieces fs after)

  pub more_pieces : FormTrees → List Piece → List Piece
  more_pieces no_form after = after
  more_pieces (form_and f fs) after = space 32 ∷ pieces f (more_pieces fs after)

abbrev pub past : ℕ → Piece → ℕ
past o p = o + size (spelling p)

abbrev mutual
  pub behind : ℕ → FormTree → ℕ
  behind o (a_word n) = past o (name (chars n.text))
  behind o (a_number z p) = past o (name (signed_decimal z))
  behind o (a_constant n p) = past o (sign (chars n.text))
  behind o (a_binding n f) = behind (past (past (past (past o (name (chars n.text))) (space 32)) bind) (space 32)) f
  behind o (a_list fs p e) = past (parts_behind (past o left) fs) right

  pub parts_behind : ℕ → FormTrees → ℕ
  parts_behind o no_form = o
  parts_behind o (form_and f fs) = more_behind (behind o f) fs

  pub more_behind : ℕ → FormTrees → ℕ
  more_behind o no_form = o
  more_behind o (form_and f fs) = more_behind (behind (past o (space 32)) f) fs

-- ---- characters

one_ascii : (c : ℕ) → c < 128 → IsAscii (c ∷ [])
one_ascii c h k = grind (arith, common_steps)

pub first_char : (c : ℕ) (bytes : List ℕ) → c < 128 → chars (c ∷ bytes) ≡ c ∷ chars bytes
first_char c bytes h =
    chars-append (c ∷ []) bytes (IsUtf8-from_ascii (c ∷ []) (one_ascii c h)) ∙ ap (λ cs. cs ++ chars bytes) (chars-IsAscii (c ∷ []) (one_ascii c h))

pub later : (o : ℕ) (p : Piece) → 1 ≤ o → 1 ≤ past o p
later o p h = omega (arith, h)

-- behind any piece the text has begun
pub begins : (o : ℕ) (p : Piece) → length (spelling p) ≡ 1 → 1 ≤ past o p
begins o p one = omega (arith, one, length-le-encodes (spelling p))

-- a name's text
pub name_utf8 : (n : Name) → has_word_characters n.text ≡ true → IsUtf8 n.text
name_utf8 n h = IsUtf8-from_is_utf8 n.text (character_parts n.text h).0

pub name_in_word : (n : Name) → has_word_characters n.text ≡ true → list_all is_in_word (chars n.text) ≡ true
name_in_word n h = (character_parts n.text h).1

pub word_characters : (n : Name) → is_any_word n ≡ true → has_word_characters n.text ≡ true
word_characters n h = (any_word_parts n h).1

pub constant_characters : (n : Name) → is_constant_name n ≡ true → has_word_characters n.text ≡ true
constant_characters n h = (constant_parts n h).1

-- text that isn't empty has characters
pub some_chars : (t : List ℕ) → IsUtf8 t → is_some_text t ≡ true → is_some_text (chars t) ≡ true
some_chars t u some = grind (arith, common_steps, encodes-chars t u)

-- a word's first character is no `$`
pub no_sign : (t : List ℕ) (c : ℕ) (cs : List ℕ) → IsUtf8 t → chars t ≡ c ∷ cs → begins_any_word t ≡ true → (c == 36) ≡ false
no_sign [] c cs u e h = absurd (true≢false (sym h ∙ nothing_begins_any))
no_sign (b ∷ bs) c cs u e h = elim (cases_Bool (c == 36)) [
  | inl d ↦ grind (arith, common_steps, encodes-chars (b ∷ bs) u, eqb-true c 36 d, byte_from_char (b ∷ bs) (encode_utf8_all cs) 36, any_beginning_parts b bs h)
  | inr d ↦ d
]

-- characters of a word stand as a name, where the text has begun
pub stands : (o : ℕ) (cs : List ℕ) → 1 ≤ o → list_all is_in_word cs ≡ true → is_some_text cs ≡ true → begins_with 36 cs ≡ false → is_name o cs ≡ true
stands o cs h all some plain = grind (arith, common_steps, both, nat_tests)

word_stands : (o : ℕ) (n : Name) → 1 ≤ o → is_any_word n ≡ true → is_name o (chars n.text) ≡ true
word_stands o n begun h = grind (arith, word_characters, name_utf8, begins, any_word_parts, stands, name_in_word, some_chars, any_beginning_some, no_sign)

-- a number's characters
pub number_plain : (z : ℤ) → is_signed_128 z ≡ true → begins_with 36 (signed_decimal z) ≡ false
number_plain z h = grind (arith, common_steps, begins_as_number z h, eqb-true)

pub number_stands : (o : ℕ) (z : ℤ) → 1 ≤ o → is_signed_128 z ≡ true → is_name o (signed_decimal z) ≡ true
number_stands o z begun h = stands o (signed_decimal z) begun (number_characters z h) (number_some z h) (number_plain z h)

constant_stands : (cs : List ℕ) → list_all is_in_word cs ≡ true → is_some_text cs ≡ true → is_constant cs ≡ true
constant_stands cs all some = grind (arith, common_steps)

-- ---- what forms begin with

pub plain_text : (t rest : List ℕ) → IsUtf8 t → list_all is_in_word (chars t) ≡ true → is_some_text t ≡ true → begins_with 59 (chars (t ++ rest)) ≡ false
plain_text t rest u all some = ap (begins_with 59) (chars-append t rest u) ∙ (grind (arith, common_steps, both, some_chars t u some))

word_plain : (n : Name) (rest : List ℕ) → is_any_word n ≡ true → begins_with 59 (chars (n.text ++ rest)) ≡ false
word_plain n rest h = grind (arith, common_steps, word_characters, plain_text, name_utf8, name_in_word, any_beginning_some, any_word_parts)

pub number_utf8 : (z : ℤ) → is_signed_128 z ≡ true → IsUtf8 (signed_decimal z)
number_utf8 z h = IsUtf8-from_ascii (signed_decimal z) (number_ascii z h)

form_plain : (f : FormTree) (rest : List ℕ) → is_fine true f ≡ true → begins_with 59 (chars (text f rest)) ≡ false
form_plain (a_word n) rest h = word_plain n rest h
form_plain (a_number z p) rest h = grind (arith, common_steps, plain_text, number_utf8, chars-IsAscii, number_ascii, number_characters, number_some)
form_plain (a_constant n p) rest h = ap (begins_with 59) (first_char 36 (n.text ++ rest) (omega arith))
form_plain (a_binding n f) rest h = word_plain n (32 ∷ 64 ∷ 32 ∷ text f rest) (word_is_any n (both (is_word n) (is_fine true f) h).0)
form_plain (a_list fs p e) rest h = ap (begins_with 59) (first_char 40 (parts_text fs (41 ∷ rest)) (omega arith))

parts_plain : (fs : FormTrees) (rest : List ℕ) → are_fine true fs ≡ true → begins_with 59 (chars rest) ≡ false → begins_with 59 (chars (parts_text fs rest)) ≡ false
parts_plain no_form rest h plain = plain
parts_plain (form_and f fs) rest h plain = form_plain f (more_text fs rest) (both (is_fine true f) (are_fine true fs) h).0

more_ends : (fs : FormTrees) (rest : List ℕ) → ends_word (chars rest) ≡ true → ends_word (chars (more_text fs rest)) ≡ true
more_ends no_form rest h = h
more_ends (form_and f fs) rest h = ap ends_word (first_char 32 (text f (more_text fs rest)) (omega arith))

-- ---- the text is these pieces

-- a piece of one character
pub one_piece : (o c : ℕ) (rest : List ℕ) (p : Piece) (after : List Piece) → c < 128 → spelling p ≡ c ∷ [] → Stands o p (chars rest) → AreIn (past o p) (chars rest) after
    → AreIn o (chars (c ∷ rest)) (p ∷ after)
one_piece o c rest p after small is stand h = (chars rest, first_char c rest small ∙ ap (λ cs. cs ++ chars rest) (sym is), stand, h)

word_piece : (o : ℕ) (n : Name) (rest : List ℕ) (after : List Piece) → 1 ≤ o → is_any_word n ≡ true → ends_word (chars rest) ≡ true
    → AreIn (past o (name (chars n.text))) (chars rest) after → AreIn o (chars (n.text ++ rest)) (name (chars n.text) ∷ after)
word_piece o n rest after begun h ends are = grind (arith, common_steps, chars-append, name_utf8, word_characters, word_stands)

constant_piece : (o : ℕ) (n : Name) (rest : List ℕ) (after : List Piece) → is_constant_name n ≡ true → ends_word (chars rest) ≡ true
    → AreIn (past o (sign (chars n.text))) (chars rest) after → AreIn o (chars (36 ∷ (n.text ++ rest))) (sign (chars n.text) ∷ after)
constant_piece o n rest after h ends are =
    let characters = constant_characters n h in
    let utf8 = name_utf8 n characters in
    let some = (constant_parts n h).0 in (
      chars rest,
      first_char 36 (n.text ++ rest) (omega arith) ∙ ap (λ cs. 36 ∷ cs) (chars-append n.text rest utf8),
      (constant_stands (chars n.text) (name_in_word n characters) (some_chars n.text utf8 some), ends),
      are,
    )

-- offsets grow
mutual
  pub farther : (f : FormTree) (o : ℕ) → 1 ≤ o → 1 ≤ behind o f
  farther (a_binding n f) o h = grind (arith, common_steps, farther f, later)
  farther (a_list fs p e) o h = later (parts_behind (past o left) fs) right (parts_farther fs (past o left) (later o left h))
  farther f o h = grind (arith, later)

  pub parts_farther : (fs : FormTrees) (o : ℕ) → 1 ≤ o → 1 ≤ parts_behind o fs
  parts_farther no_form o h = h
  parts_farther (form_and f fs) o h = more_farther fs (behind o f) (farther f o h)

  pub more_farther : (fs : FormTrees) (o : ℕ) → 1 ≤ o → 1 ≤ more_behind o fs
  more_farther no_form o h = h
  more_farther (form_and f fs) o h = more_farther fs (behind (past o (space 32)) f) (farther f (past o (space 32)) (later o (space 32) h))

mutual
  pub form_in : (f : FormTree) (o : ℕ) (rest : List ℕ) (after : List Piece) → is_fine true f ≡ true → 1 ≤ o → ends_word (chars rest) ≡ true
      → AreIn (behind o f) (chars rest) after → AreIn o (chars (text f rest)) (pieces f after)
  form_in (a_word n) o rest after h begun ends are = word_piece o n rest after begun h ends are
  form_in (a_number z p) o rest after h begun ends are = grind (arith, chars-append, number_utf8, chars-IsAscii, number_ascii, number_stands)
  form_in (a_constant n p) o rest after h begun ends are = constant_piece o n rest after h ends are
  form_in (a_binding n f) o rest after h begun ends are =
      let k = both (is_word n) (is_fine true f) h in
      let one = past o (name (chars n.text)) in
      let two = past one (space 32) in
      let three = past two bind in
      let four = past three (space 32) in
      word_piece o n (32 ∷ 64 ∷ 32 ∷ text f rest) (space 32 ∷ bind ∷ space 32 ∷ pieces f after) begun (word_is_any n k.0) (grind (arith, common_steps, first_char))
      (one_piece one 32 (64 ∷ 32 ∷ text f rest) (space 32) (bind ∷ space 32 ∷ pieces f after) (omega arith) refl refl
      (one_piece two 64 (32 ∷ text f rest) bind (space 32 ∷ pieces f after) (omega arith) refl tt
      (one_piece three 32 (text f rest) (space 32) (pieces f after) (omega arith) refl refl
      (form_in f four rest after k.1 (later three (space 32) (later two bind (later one (space 32) (later o (name (chars n.text)) begun)))) ends are))))
  form_in (a_list fs p e) o rest after h begun ends are =
      let inside = past o left in
      one_piece o 40 (parts_text fs (41 ∷ rest)) left (parts_pieces fs (right ∷ after)) (omega arith) refl
      (parts_plain fs (41 ∷ rest) h (ap (begins_with 59) (first_char 41 rest (omega arith))))
      (grind (arith, common_steps, parts_in fs inside (41 ∷ rest) (right ∷ after) h (begins o left refl), begins, first_char, one_piece))

  pub parts_in : (fs : FormTrees) (o : ℕ) (rest : List ℕ) (after : List Piece) → are_fine true fs ≡ true → 1 ≤ o → ends_word (chars rest) ≡ true
      → AreIn (parts_behind o fs) (chars rest) after → AreIn o (chars (parts_text fs rest)) (parts_pieces fs after)
  parts_in no_form o rest after h begun ends are = are
  parts_in (form_and f fs) o rest after h begun ends are = grind (arith, common_steps, form_in f o, more_in fs, both, is_fine, are_fine, more_ends, farther)

  pub more_in : (fs : FormTrees) (o : ℕ) (rest : List ℕ) (after : List Piece) → are_fine true fs ≡ true → 1 ≤ o → ends_word (chars rest) ≡ true
      → AreIn (more_behind o fs) (chars rest) after → AreIn o (chars (more_text fs rest)) (more_pieces fs after)
  more_in no_form o rest after h begun ends are = are
  more_in (form_and f fs) o rest after h begun ends are =
      let k = both (is_fine true f) (are_fine true fs) h in
      let next = past o (space 32) in
      one_piece o 32 (text f (more_text fs rest)) (space 32) (pieces f (more_pieces fs after)) (omega arith) refl refl
      (grind (arith, common_steps, form_in f next, more_in fs, later o (space 32) begun, more_ends fs rest ends, farther f next (later o (space 32) begun)))

abbrev pub is_list : FormTree → Bool
is_list (a_word n) = false
is_list (a_number z p) = false
is_list (a_constant n p) = false
is_list (a_binding n f) = false
is_list (a_list fs p e) = true

-- a list stands at the beginning of a text too
pub whole_in : (f : FormTree) (o : ℕ) (rest : List ℕ) (after : List Piece) → is_list f ≡ true → is_fine true f ≡ true
    → AreIn (behind o f) (chars rest) after → AreIn o (chars (text f rest)) (pieces f after)
whole_in f o rest after list h are = grind (arith, common_steps, one_piece, parts_plain, first_char, parts_in, begins)
