-- The tokens of forms that are written, and the places that they get.
use Rattle.std.proofs.Common.{◌≡◌, ℕ, ◌+◌, refl, sym, ap, ◌∙◌, List, [], ◌∷◌, ◌++◌, map, append_assoc, append-nil, arith}
use Rattle.std.specs.Prelude.{ℤ, Bool, true, false, Some, option_map, Result, Ok, if◌then◌else◌}
use Rattle.std.specs.Fmt.{signed_decimal}
use Rattle.std.specs.Str.{chars}
use Rattle.std.proofs.lemmas.Bool.{true≢false}
use Rattle.std.proofs.lemmas.List.{map-append}
use Rattle.std.proofs.lemmas.Str.{encodes-chars, encodes-IsAscii}
use Rattle.std.proofs.lemmas.Grind.{common_steps}
use Rattle.model.specs.lists.Syntax.{Position, Name}
use Rattle.text_reader.specs.Lexemes.{Lexeme, begin_list, end_list, word, dash, binder, number, Wrong, ◌>>=◌, word_token, last_bound}
use Rattle.text_reader.specs.FormTrees.{FormTree, a_word, a_number, a_constant, a_binding, a_list, FormTrees, no_form, form_and, spelled, all_spelled, depth, all_depth}
use Rattle.text_reader.specs.Pieces.{Piece, space, left, right, bind, name, sign}
use Rattle.text_reader.specs.Solid.{nowhere, placeless_name}
use Rattle.text_reader.specs.Lexing.{Tokens, added, tokens_after}
use Rattle.text_reader.specs.PassedOver.{is_dashed, mark}
use Rattle.text_writer.specs.Spellable.{begins_any_word, is_any_word, is_signed_128}
use Rattle.text_writer.proofs.WordParts.{both, word_parts, any_word_parts, any_beginning_parts, nothing_begins_any, word_is_any}
use Rattle.text_writer.proofs.Bare.{bare, all_bare}
use Rattle.text_writer.proofs.Fine.{is_fine, are_fine, no_dash}
use Rattle.text_writer.proofs.Numbers.{number_ascii, number_token}
use Rattle.text_writer.proofs.Written.{pieces, parts_pieces, more_pieces, past, behind, parts_behind, more_behind, name_utf8, word_characters, constant_characters}

-- ---- tokens before others

mutual
  pub spelled_before : (f : FormTree) (more after : List Lexeme) → spelled f (more ++ after) ≡ spelled f more ++ after
  spelled_before (a_binding n f) more after = ap (λ ts. binder n ∷ ts) (spelled_before f more after)
  spelled_before (a_list fs p e) more after = ap (λ ts. begin_list p ∷ ts) (all_before fs (end_list e ∷ more) after)
  spelled_before _ more after = refl

  pub all_before : (fs : FormTrees) (more after : List Lexeme) → all_spelled fs (more ++ after) ≡ all_spelled fs more ++ after
  all_before no_form more after = refl
  all_before (form_and f fs) more after = ap (spelled f) (all_before fs more after) ∙ spelled_before f (all_spelled fs more) after

-- ... and before others, each as the token that it is
pub marked_before : (f : FormTree) (more after : List Lexeme) → map mark (spelled f (more ++ after)) ≡ map mark (spelled f more) ++ map mark after
marked_before f more after = ap (map mark) (spelled_before f more after) ∙ map-append mark (spelled f more) after

pub all_marked : (fs : FormTrees) (more after : List Lexeme) → map mark (all_spelled fs (more ++ after)) ≡ map mark (all_spelled fs more) ++ map mark after
all_marked fs more after = ap (map mark) (all_before fs more after) ∙ map-append mark (all_spelled fs more) after

-- the last token, a word, bound
bound : (done : Tokens) (n : Name) → last_bound (done ++ word n ∷ []) ≡ Some (done ++ binder n ∷ [])
bound (t ∷ u ∷ us) n = ap (option_map (λ ts. t ∷ ts)) (bound (u ∷ us) n)
bound _ n = refl

module _ (file : ℕ) where
  abbrev pub at : ℕ → Position
  at o = record { file = file; offset = o }

  abbrev pub name_at : Name → ℕ → Name
  name_at n o = record { text = n.text; at = at o }

  -- behind a name and `@`
  abbrev bound_at : ℕ → Name → ℕ
  bound_at o n = past (past (past (past o (name (chars n.text))) (space 32)) bind) (space 32)

  -- ---- forms as they stand in a text

  abbrev mutual
    pub placed : ℕ → FormTree → FormTree
    placed o (a_word n) = a_word (name_at n o)
    placed o (a_number z p) = a_number z (at o)
    placed o (a_constant n p) = a_constant (name_at n (o + 1)) (at o)
    placed o (a_binding n f) = a_binding (name_at n o) (placed (bound_at o n) f)
    placed o (a_list fs p e) = a_list (parts_placed (past o left) fs) (at o) (at (parts_behind (past o left) fs))

    pub parts_placed : ℕ → FormTrees → FormTrees
    parts_placed o no_form = no_form
    parts_placed o (form_and f fs) = form_and (placed o f) (more_placed (behind o f) fs)

    pub more_placed : ℕ → FormTrees → FormTrees
    more_placed o no_form = no_form
    more_placed o (form_and f fs) = form_and (placed (past o (space 32)) f) (more_placed (behind (past o (space 32)) f) fs)

  -- they are the same but for places
  mutual
    pub placed_bare : (o : ℕ) (f : FormTree) → bare (placed o f) ≡ bare f
    placed_bare o (a_binding n f) = ap (a_binding (placeless_name n)) (placed_bare (bound_at o n) f)
    placed_bare o (a_list fs p e) = ap (λ gs. a_list gs nowhere nowhere) (parts_bare (past o left) fs)
    placed_bare o _ = refl

    parts_bare : (o : ℕ) (fs : FormTrees) → all_bare (parts_placed o fs) ≡ all_bare fs
    parts_bare o no_form = refl
    parts_bare o (form_and f fs) = rw (placed_bare o f, more_bare (behind o f) fs) refl

    more_bare : (o : ℕ) (fs : FormTrees) → all_bare (more_placed o fs) ≡ all_bare fs
    more_bare o no_form = refl
    more_bare o (form_and f fs) = rw (placed_bare (past o (space 32)) f, more_bare (behind (past o (space 32)) f) fs) refl

  -- they nest as deep
  mutual
    pub placed_depth : (o : ℕ) (f : FormTree) → depth (placed o f) ≡ depth f
    placed_depth o (a_binding n f) = ap (λ d. d + 1) (placed_depth (bound_at o n) f)
    placed_depth o (a_list fs p e) = ap (λ d. d + 1) (parts_depth (past o left) fs)
    placed_depth o _ = refl

    parts_depth : (o : ℕ) (fs : FormTrees) → all_depth (parts_placed o fs) ≡ all_depth fs
    parts_depth o no_form = refl
    parts_depth o (form_and f fs) = rw (placed_depth o f, more_depth (behind o f) fs) refl

    more_depth : (o : ℕ) (fs : FormTrees) → all_depth (more_placed o fs) ≡ all_depth fs
    more_depth o no_form = refl
    more_depth o (form_and f fs) = rw (placed_depth (past o (space 32)) f, more_depth (behind (past o (space 32)) f) fs) refl

  -- ---- tokens

  word_is_token : (t : List ℕ) (p : Position) → begins_any_word t ≡ true → word_token (record { text = t; at = p }) ≡ Ok (mark (word (record { text = t; at = p })))
  unfolding word_token
  word_is_token [] p h = absurd (true≢false (sym h ∙ nothing_begins_any))
  word_is_token (b ∷ bs) p h = rw (any_beginning_parts b bs h).1 (by (is_dashed (b ∷ bs)))
    where
      by : (d : Bool) → (let n : Name = record { text = b ∷ bs; at = p } in
          let r : Result Lexeme Wrong = if d then Ok (dash n) else Ok (word n) in r ≡ Ok (if d then dash n else word n))
      by true = refl
      by false = refl

  word_added : (n : Name) (o : ℕ) (done : Tokens) → is_any_word n ≡ true → added (name (chars n.text)) (at o) done ≡ Ok (done ++ mark (word (name_at n o)) ∷ [])
  word_added n o done h =
      rw (encodes-chars n.text (name_utf8 n (word_characters n h)), word_is_token n.text (at o) (any_word_parts n h).0) refl

  pub number_added : (z : ℤ) (o : ℕ) (done : Tokens) → is_signed_128 z ≡ true → added (name (signed_decimal z)) (at o) done ≡ Ok (done ++ number z (at o) ∷ [])
  number_added z o done h = rw (encodes-IsAscii (signed_decimal z) (number_ascii z h), number_token z (at o) h) refl

  -- one piece after another
  pub next : (o : ℕ) (p : Piece) (ps : List Piece) (done more : Tokens) → added p (at o) done ≡ Ok more → tokens_after file o (p ∷ ps) done ≡ tokens_after file (past o p) ps more
  next o p ps done more e = ap (λ r. r >>= tokens_after file (past o p) ps) e

  pub joined : (done : Tokens) (f : FormTree) (fs : FormTrees)
      → (done ++ map mark (spelled f [])) ++ map mark (all_spelled fs []) ≡ done ++ map mark (all_spelled (form_and f fs) [])
  joined done f fs = append_assoc done (map mark (spelled f [])) (map mark (all_spelled fs [])) ∙ ap (λ ts. done ++ ts) (sym (marked_before f [] (all_spelled fs [])))

  mutual
    pub form_told : (f : FormTree) (o : ℕ) (after : List Piece) (done : Tokens) → is_fine true f ≡ true
        → tokens_after file o (pieces f after) done ≡ tokens_after file (behind o f) after (done ++ map mark (spelled (placed o f) []))
    form_told (a_word n) o after done h = next o (name (chars n.text)) after done _ (word_added n o done h)
    form_told (a_number z p) o after done h = next o (name (signed_decimal z)) after done _ (number_added z o done h)
    form_told (a_constant n p) o after done h = next o (sign (chars n.text)) after done _ (grind (arith, encodes-chars, name_utf8, constant_characters))
    form_told (a_binding n f) o after done h = grind (arith, common_steps, form_told f, both, next, behind, bound, word_added, word_is_any, no_dash, word_parts)
    form_told (a_list fs p e) o after done h =
        let inside = past o left in
        let begun = done ++ begin_list (at o) ∷ [] in
        let ends = parts_behind inside fs in
        let parts = parts_placed inside fs in
        next o left (parts_pieces fs (right ∷ after)) done begun refl
        ∙ parts_told fs inside (right ∷ after) begun h
        ∙ next ends right after (begun ++ map mark (all_spelled parts [])) _ refl
        ∙ ap (tokens_after file (past ends right) after)
        (grind (arith, common_steps, all_marked parts [] (end_list (at ends) ∷ [])))

    pub parts_told : (fs : FormTrees) (o : ℕ) (after : List Piece) (done : Tokens) → are_fine true fs ≡ true
        → tokens_after file o (parts_pieces fs after) done ≡ tokens_after file (parts_behind o fs) after (done ++ map mark (all_spelled (parts_placed o fs) []))
    parts_told no_form o after done h = ap (tokens_after file o after) (sym (append-nil done))
    parts_told (form_and f fs) o after done h =
        let k = both (is_fine true f) (are_fine true fs) h in
        form_told f o (more_pieces fs after) done k.0
        ∙ more_told fs (behind o f) after (done ++ map mark (spelled (placed o f) [])) k.1
        ∙ ap (tokens_after file (more_behind (behind o f) fs) after) (joined done (placed o f) (more_placed (behind o f) fs))

    pub more_told : (fs : FormTrees) (o : ℕ) (after : List Piece) (done : Tokens) → are_fine true fs ≡ true
        → tokens_after file o (more_pieces fs after) done ≡ tokens_after file (more_behind o fs) after (done ++ map mark (all_spelled (more_placed o fs) []))
    more_told no_form o after done h = ap (tokens_after file o after) (sym (append-nil done))
    more_told (form_and f fs) o after done h =
        let k = both (is_fine true f) (are_fine true fs) h in
        let there = past o (space 32) in
        next o (space 32) (pieces f (more_pieces fs after)) done done refl
        ∙ form_told f there (more_pieces fs after) done k.0
        ∙ more_told fs (behind there f) after (done ++ map mark (spelled (placed there f) [])) k.1
        ∙ ap (tokens_after file (more_behind (behind there f) fs) after) (joined done (placed there f) (more_placed (behind there f) fs))
