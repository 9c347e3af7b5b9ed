-- Where no chunk of a text has a mistake, the text has none, and gives what they give.
use Rattle.std.proofs.Common.{◌≡◌, ℕ, ◌+◌, ◌-◌, Bool, true, false, ◌==◌, List, [], ◌∷◌, ◌++◌, length, refl, sym, ap, ◌∙◌, subst, inl, inr, arith, append-nil, length-append, chars, encode_utf8_all, IsUtf8}
use Rattle.std.specs.Prelude.{Option, Result, Ok, Err, if◌then◌else◌, nat_le, ◌&&◌}
use Rattle.std.specs.Char.{encode_utf8}
use Rattle.std.proofs.Math.Nat.{add-zero}
use Rattle.text_reader.specs.declared.errors.Mistake.TheVariants.{Depth, ConstantName}
use Rattle.std.proofs.lemmas.Bool.{cases_Bool, eqb-true, false≢true}
use Rattle.std.proofs.lemmas.Str.{encodes-append, encodes-chars}
use Rattle.std.proofs.lemmas.Grind.{common_steps}
use Rattle.model.specs.lists.Syntax.{Position, Definition}
use Rattle.text_reader.specs.Lexemes.{Wrong, expected, begin_list, end_list, ◌>>=◌, last_bound, or_mistake}
use Rattle.text_reader.specs.Pieces.{size, pieces_from, is_in_word, is_space}
use Rattle.text_reader.specs.Lexing.{Tokens, Mode, Read, with_char, between, in_line, opened, in_block, signed, in_name, in_constant, begun, in_comment, finished, step, run, reached, tokens_after}
use Rattle.text_reader.specs.FormTrees.{FormTree, FormTrees, no_form, form_and}
use Rattle.text_reader.specs.Forming.{forms_of}
use Rattle.text_reader.specs.Definitions.{definition_of, definitions_of, reading}
use Rattle.text_reader.specs.declared.chunks.CharacterPlace.{CharacterPlace}
use Rattle.text_reader.specs.declared.chunks.CharacterPlace.TheVariants.{LineBegin, Ended, Within, Opened, Line, Block, Lost}
use Rattle.text_reader.specs.Chunks.{Part, begins_chunk, begins_line, deeper, moved_between, moved, empty_at, longer, chunks_from, chunks_of}
use Rattle.text_reader.specs.Recovering.{one_of, each_by_itself, of_forms, forms_in_part, tokens_of, of_parts, whole_or, recovering}
use Rattle.text_reader.proofs.Dividing.{at, width, divided_from, size_one, past, bind_same, bind_twice}
use Rattle.text_reader.proofs.Only.{only}
use Rattle.text_reader.proofs.Mistakes.{both_give}
use Rattle.text_reader.proofs.Fronts.{run_past, reached_anywhere}
use Rattle.text_reader.proofs.Behind.{Given, same, tokens_behind, together, forms_together, definitions_together}

-- ---- where a place of the cut stands among the characters of tokens

-- whether a mode is one outside of comments and parentheses
abbrev outside : Mode → Bool
outside between = true
outside in_line = false
outside (opened p) = false
outside (in_block p depth last) = false
outside (signed p) = true
outside (in_name n) = true
outside (in_constant n p) = true

-- whether a place is one that reading is at in a mode
abbrev Agrees : CharacterPlace → Mode → Type 0
Agrees (LineBegin n) m = m ≡ between
Agrees Ended m = m ≡ between
Agrees (Within n) m = outside m ≡ true
Agrees (Opened n) m = (p : Position) × (m ≡ opened p)
Agrees (Line n) m = m ≡ in_line
Agrees (Block n depth last) m = (p : Position) × (m ≡ in_block p depth last)
Agrees Lost m = false ≡ true

abbrev reads : Mode → Tokens → Read
reads m d = Ok (m, d)

-- what a test leads to
chosen : {A : Type 0} (P : Type 0) (b : Bool) (q r : Result A Wrong) (s : A) → (q ≡ Ok s → P) → (r ≡ Ok s → P) → (if b then q else r) ≡ Ok s → P
chosen P b q r s h k e = grind (arith, common_steps)

module _ (p : Position) (d : Tokens) (s : Mode × Tokens) where
  abbrev OneMore : (n c : ℕ) → Type 0
  OneMore n c = begun p c d ≡ Ok s → Agrees (moved_between n c) s.0

  mode_is : (m : Mode) (ts : Tokens) → Given (m, ts) ≡ Ok s → s.0 ≡ m
  mode_is m ts e = ap (λ x. x.0) (sym (same (m, ts) s e))

  ended_agrees : (b : Bool) (k : ℕ) → s.0 ≡ between → Agrees (if b then Ended else Within k) s.0
  ended_agrees b k e = grind (arith, common_steps)

  bound_outside : (r : Option Tokens) → or_mistake p r >>= (λ ts. Ok (between, ts)) ≡ Ok s → outside s.0 ≡ true
  bound_outside r e = grind (arith, common_steps, mode_is)

  other_outside : (n c : ℕ) → c == 10 ≡ false → c == 40 ≡ false → c == 59 ≡ false → c == 41 ≡ false → OneMore n c
  unfolding begun
  other_outside n c a b f g = rw (a, b, f, g) (
      chosen (outside s.0 ≡ true) (c == 36) _ _ s (λ e. ap outside (mode_is (signed p) d e))
      (chosen (outside s.0 ≡ true) (c == 64) _ _ s (bound_outside (last_bound d))
      (chosen (outside s.0 ≡ true) (is_space p.offset c) _ _ s (λ e. ap outside (mode_is between d e)) (λ e. ap outside (mode_is _ d e)))))

  at_character : (n c k : ℕ) → c == k ≡ true → OneMore n k → OneMore n c
  at_character n c k e h = subst (OneMore n) (sym (eqb-true c k e)) h

  begun_agrees : (n c : ℕ) → OneMore n c
  unfolding begun
  begun_agrees n c = elim (cases_Bool (c == 10)) [
    | inl a ↦ at_character n c 10 a (λ e. mode_is between d e)
    | inr a ↦ elim (cases_Bool (c == 40)) [
      | inl b ↦ at_character n c 40 b (λ e. (p, mode_is (opened p) d e))
      | inr b ↦ elim (cases_Bool (c == 59)) [
        | inl f ↦ at_character n c 59 f (λ e. mode_is in_line d e)
        | inr f ↦ elim (cases_Bool (c == 41)) [
          | inl g ↦ at_character n c 41 g (λ e. ended_agrees (nat_le n 1) (n - 1) (mode_is between (d ++ end_list p ∷ []) e))
          | inr g ↦ other_outside n c a b f g
        ]
      ]
    ]
  ]

  finished_agrees : (n c end : ℕ) (m : Mode) → finished p.file end m d >>= begun p c ≡ Ok s → ((ts : Tokens) → begun p c ts ≡ Ok s → Agrees (moved_between n c) s.0) → Agrees (moved_between n c) s.0
  finished_agrees n c end m e h = let f = both_give (finished p.file end m d) (begun p c) s e in h f.0 f.2

no_such : (c k : ℕ) → is_in_word c ≡ true → is_in_word k ≡ false → c == k ≡ false
no_such c k w not_k = grind (arith, common_steps, eqb-true)

-- a character of a word is within
word_within : (n c : ℕ) → is_in_word c ≡ true → moved_between n c ≡ Within n
word_within n c w = rw (no_such c 10 w refl, no_such c 40 w refl, no_such c 59 w refl, no_such c 41 w refl) refl

size_joined : (a b : List ℕ) → size (a ++ b) ≡ size a + size b
size_joined a b = ap length (encodes-append a b) ∙ length-append (encode_utf8_all a) (encode_utf8_all b)

module _ (end : ℕ) (p : Position) (c : ℕ) (d : Tokens) (s : Mode × Tokens) where
  abbrev Leads : CharacterPlace → Mode → Type 0
  Leads place m = step end m p c d ≡ Ok s → Agrees (moved place c) s.0

  plain_agrees : (n : ℕ) (m : Mode) → m ≡ between → step end m p c d ≡ Ok s → Agrees (moved_between n c) s.0
  plain_agrees n m is e = begun_agrees p d s n c (subst (λ x. step end x p c d ≡ Ok s) is e)

  word_agrees : (n : ℕ) (m : Mode) (r : Read) → outside m ≡ true → (r ≡ Ok s → Agrees (moved_between n c) s.0) → (if is_in_word c then reads m d else r) ≡ Ok s → Agrees (moved_between n c) s.0
  word_agrees n m r is h e = grind (arith, common_steps, word_within, mode_is)

  within_agrees : (n : ℕ) (m : Mode) → outside m ≡ true → Leads (Within n) m
  within_agrees n between is e = begun_agrees p d s n c e
  within_agrees n (signed o) is e = word_agrees n (in_constant (record { text = encode_utf8 c; at = p }) o) (Err (expected ConstantName, p)) refl (λ f. absurd (cc f)) e
  within_agrees n (in_name o) is e = word_agrees n (in_name (with_char o c)) _ refl (λ f. finished_agrees p d s n c end (in_name o) f (λ ts. begun_agrees p ts s n c)) e
  within_agrees n (in_constant o q) is e = word_agrees n (in_constant (with_char o c) q) _ refl (λ f. finished_agrees p d s n c end (in_constant o q) f (λ ts. begun_agrees p ts s n c)) e
  within_agrees n _ is e = absurd (false≢true is)

  opened_agrees : (b : Bool) (n : ℕ) (o : Position)
      → (if b then Ok (in_block o 1 32, d) else (Ok (d ++ begin_list o ∷ []) >>= begun p c)) ≡ Ok s → Agrees (if b then Block n 1 32 else moved_between (deeper n) c) s.0
  opened_agrees true n o e = (o, mode_is p d s (in_block o 1 32) d e)
  opened_agrees false n o e = begun_agrees p (d ++ begin_list o ∷ []) s (deeper n) c e

  line_agrees : (b : Bool) (n : ℕ) → (if b then reads between d else reads in_line d) ≡ Ok s → Agrees (if b then LineBegin n else Line n) s.0
  line_agrees b n e = grind (arith, common_steps, mode_is)

  block_agrees : (begins too_deep ends last : Bool) (n depth : ℕ) (o : Position)
      → ((if begins then (if too_deep then Err (expected Depth, o) else Ok (in_block o (depth + 1) 32)) else if ends then (if last then Ok between else Ok (in_block o (depth - 1) 32)) else Ok (in_block o depth c)) >>= (λ m. Ok (m, d))) ≡ Ok s
      → Agrees (if begins then (if too_deep then Lost else Block n (depth + 1) 32) else if ends then (if last then Within n else Block n (depth - 1) 32) else Block n depth c) s.0
  block_agrees begins too_deep ends last n depth o e = grind (arith, common_steps, mode_is)

  step_agrees : (place : CharacterPlace) (m : Mode) → Agrees place m → Leads place m
  unfolding in_comment
  step_agrees (LineBegin n) m h e = plain_agrees (if begins_line c then 0 else n) m h e
  step_agrees Ended m h e = plain_agrees 0 m h e
  step_agrees (Within n) m h e = within_agrees n m h e
  step_agrees (Opened n) m h e = opened_agrees (c == 59) n h.0 (subst (λ x. step end x p c d ≡ Ok s) h.1 e)
  step_agrees (Line n) m h e = line_agrees (c == 10) n (subst (λ x. step end x p c d ≡ Ok s) h e)
  step_agrees (Block n depth last) m h e =
      block_agrees (last == 40 && c == 59) (nat_le 1000 depth) (last == 59 && c == 41) (nat_le depth 1) n depth h.0 (subst (λ x. step end x p c d ≡ Ok s) h.1 e)
  step_agrees Lost m h e = absurd (false≢true h)

-- where a chunk begins, what was read before it is ended as it is at a text's end
begins_anew : (file a b : ℕ) (p : Position) (place : CharacterPlace) (m : Mode) (c : ℕ) (d ts : Tokens) → begins_chunk place c ≡ true → Agrees place m → finished file a m d ≡ Ok ts → step b m p c d ≡ step b between p c ts
begins_anew file a b p place m c d ts begins h e = grind (arith, common_steps, same)

reached_past : (file end : ℕ) (front rest : List ℕ) (m : Mode) (o : ℕ) (done : Tokens)
    → reached file end m o (front ++ rest) done ≡ reached file end m o front done >>= (λ s. reached file end s.0 (o + size front) rest s.1)
reached_past file end [] rest m o done = ap (λ k. reached file end m k rest done) (sym (add-zero o))
reached_past file end (c ∷ cs) rest m o done = grind (arith, common_steps, reached_past file end cs rest, bind_same, at, width, past, bind_twice)

-- a place is one that reading a part is at behind it
abbrev Follows : (file : ℕ) → CharacterPlace → Part → Type 0
Follows file place p = (s : Mode × Tokens) → reached file 0 between p.at p.text [] ≡ Ok s → Agrees place s.0

follows_more : (file : ℕ) (place : CharacterPlace) (p : Part) (c : ℕ) → Follows file place p → Follows file (moved place c) (longer p c)
follows_more file place p c h s e =
    let more = λ (t : Mode × Tokens). reached file 0 t.0 (p.at + size p.text) (c ∷ []) t.1 in
    let f = both_give (reached file 0 between p.at p.text []) more s (sym (reached_past file 0 p.text (c ∷ []) between p.at []) ∙ e) in
    let g = both_give (step 0 f.0.0 (at file (p.at + size p.text)) c f.0.1) (λ t. Ok t) s f.2 in
    subst (λ t. Agrees (moved place c) t.0) (same g.0 s g.2)
    (step_agrees 0 (at file (p.at + size p.text)) c f.0.1 g.0 place f.0.0 (h f.0 f.1) g.1)

nothing_read : (m : Mode) (s : Mode × Tokens) → Given (m, []) ≡ Ok s → s.0 ≡ m
nothing_read m s e = ap (λ x. x.0) (sym (same _ s e))

follows_begin : (file o : ℕ) (place : CharacterPlace) (c : ℕ) → begins_chunk place c ≡ true → Follows file place (empty_at o)
follows_begin file o place c b = grind (arith, common_steps, nothing_read)

-- a chunk behind one that is read by itself
goes_on_behind : (file next : ℕ) (place : CharacterPlace) (p : Part) (c : ℕ) (cs : List ℕ) (ts : Tokens) → begins_chunk place c ≡ true → Follows file place p
    → run file (p.at + size p.text) between p.at p.text [] ≡ Ok ts
    → run file next between p.at (p.text ++ c ∷ cs) [] ≡ run file next between (p.at + size p.text) (c ∷ cs) ts
unfolding run
goes_on_behind file next place p c cs ts b h e =
    let end = p.at + size p.text in
    let f = both_give (reached file end between p.at p.text []) (λ s. run file end s.0 end [] s.1) ts (sym (run_past file end p.text [] between p.at []) ∙ ap (λ t. run file end between p.at t []) (append-nil p.text) ∙ e) in
    let here = at file end in
    let agrees = h f.0 (reached_anywhere file 0 end p.text between p.at [] ∙ f.1) in
    run_past file next p.text (c ∷ cs) between p.at []
    ∙ ap (λ r. r >>= (λ s. run file next s.0 end (c ∷ cs) s.1)) (reached_anywhere file next end p.text between p.at [] ∙ f.1)
    ∙ ap (λ r. r >>= (λ s. run file next s.0 (end + width c) cs s.1)) (begins_anew file end next here place f.0.0 c f.0.1 ts b agrees f.2)

by_pieces : (file o : ℕ) (cs : List ℕ) (done : Tokens) → run file (o + size cs) between o cs done ≡ tokens_after file o (pieces_from (length cs) o cs) done
by_pieces file o cs done = only file (o + size cs) (pieces_from (length cs) o cs) o cs done refl (divided_from (length cs) o cs (omega arith))

run_behind : (file o : ℕ) (cs : List ℕ) (pre ts : Tokens) → run file (o + size cs) between o cs [] ≡ Ok ts → run file (o + size cs) between o cs pre ≡ Ok (pre ++ ts)
run_behind file o cs pre ts e =
    by_pieces file o cs pre
    ∙ ap (tokens_after file o (pieces_from (length cs) o cs)) (sym (append-nil pre))
    ∙ tokens_behind file o (pieces_from (length cs) o cs) pre [] ts (sym (by_pieces file o cs []) ∙ e)

-- ---- what is read whole

-- the characters at an offset give these definitions
abbrev IsWhole : (file o : ℕ) → List ℕ → List Definition → Type 0
IsWhole file o cs ds = (ts : Tokens) × (fs : FormTrees) × (run file (o + size cs) between o cs [] ≡ Ok ts) × (forms_of file (o + size cs) ts ≡ Ok fs) × (definitions_of fs ≡ Ok ds)

whole_behind : (file : ℕ) (place : CharacterPlace) (p : Part) (c : ℕ) (cs : List ℕ) (ds es : List Definition) → begins_chunk place c ≡ true → Follows file place p
    → IsWhole file p.at p.text ds → IsWhole file (p.at + size p.text) (c ∷ cs) es → IsWhole file p.at (p.text ++ c ∷ cs) (ds ++ es)
whole_behind file place p c cs ds es begins follows h k =
    let b = p.at + size p.text in
    let one_end : b + size (c ∷ cs) ≡ p.at + size (p.text ++ c ∷ cs) = omega (arith, size_joined p.text (c ∷ cs)) in
    let end = p.at + size (p.text ++ c ∷ cs) in (
      h.0 ++ k.0,
      together h.1 k.1,
      goes_on_behind file end place p c cs h.0 begins follows h.2
          ∙ subst (λ e. run file e between b (c ∷ cs) h.0 ≡ Ok (h.0 ++ k.0)) one_end (run_behind file b (c ∷ cs) h.0 k.0 k.2),
      forms_together file b end h.0 k.0 h.1 k.1 h.3 (subst (λ e. forms_of file e k.0 ≡ Ok k.1) one_end k.3),
      definitions_together h.1 k.1 ds es h.4 k.4,
    )

-- ---- forms without a mistake

one_fine : (fs : FormTrees) (f : FormTree) (r : Result Definition Wrong) → definition_of f ≡ r → (one_of r).mistakes ++ (each_by_itself fs).mistakes ≡ []
    → ((each_by_itself fs).mistakes ≡ [] → definitions_of fs ≡ Ok (each_by_itself fs).definitions)
    → definitions_of (form_and f fs) ≡ Ok ((one_of r).definitions ++ (each_by_itself fs).definitions)
one_fine fs f r is e others = grind (arith, common_steps)

each_fine : (fs : FormTrees) → (each_by_itself fs).mistakes ≡ [] → definitions_of fs ≡ Ok (each_by_itself fs).definitions
each_fine no_form e = refl
each_fine (form_and f fs) e = one_fine fs f (definition_of f) refl e (each_fine fs)

part_fine : (file : ℕ) (p : Part) (r : Result FormTrees Wrong) → forms_in_part file p ≡ r → (of_forms r).mistakes ≡ [] → IsWhole file p.at p.text (of_forms r).definitions
part_fine file p (Ok fs) is e =
    let h = both_give (tokens_of file p) (forms_of file (p.at + size p.text)) fs is in
    (h.0, fs, by_pieces file p.at p.text [] ∙ h.1, h.2, each_fine fs e)
part_fine file p (Err w) is e = absurd (cc e)

-- ---- chunks without a mistake

none_of_both : {A : Type 0} (xs ys : List A) → xs ++ ys ≡ [] → (xs ≡ []) × (ys ≡ [])
none_of_both [] ys e = (refl, e)
none_of_both (x ∷ xs) ys e = absurd (cc e)

-- these parts of a text, where they have no mistake, are read as it is from there on
abbrev AreFine : (file o : ℕ) → List ℕ → List Part → Type 0
AreFine file o cs ps = (of_parts file ps).mistakes ≡ [] → IsWhole file o cs (of_parts file ps).definitions

first_fine : (file o : ℕ) (place : CharacterPlace) (p : Part) (c : ℕ) (cs : List ℕ) (ps : List Part) → begins_chunk place c ≡ true → o ≡ p.at + size p.text → Follows file place p
    → AreFine file o (c ∷ cs) ps → AreFine file p.at (p.text ++ c ∷ cs) (p ∷ ps)
first_fine file o place p c cs ps begins at_end follows others e =
    let none = none_of_both (of_forms (forms_in_part file p)).mistakes (of_parts file ps).mistakes e in
    let es = (of_parts file ps).definitions in
    let rest : IsWhole file (p.at + size p.text) (c ∷ cs) es = subst (λ k. IsWhole file k (c ∷ cs) es) at_end (others none.1) in
    whole_behind file place p c cs (of_forms (forms_in_part file p)).definitions es begins follows (part_fine file p (forms_in_part file p) refl none.0) rest

next_fine : (file o c : ℕ) (p : Part) (cs : List ℕ) (new more : List Part) (place : CharacterPlace) (b : Bool) → begins_chunk place c ≡ b → o ≡ p.at + size p.text → Follows file place p
    → (b ≡ true → AreFine file o (c ∷ cs) new) → AreFine file p.at ((p.text ++ c ∷ []) ++ cs) more → AreFine file p.at (p.text ++ c ∷ cs) (if b then p ∷ new else more)
next_fine file o c p cs new more place true begins at_end follows first others e = first_fine file o place p c cs new begins at_end follows (first refl) e
next_fine file o c p cs new more place false begins at_end follows first others e = grind (arith, common_steps)

chunks_fine : (file : ℕ) (cs : List ℕ) (place : CharacterPlace) (p : Part) (o : ℕ) → o ≡ p.at + size p.text → Follows file place p → AreFine file p.at (p.text ++ cs) (chunks_from place p o cs)
chunks_fine file [] place p o at_end follows e = grind (arith, common_steps, part_fine file p (forms_in_part file p) refl)
chunks_fine file (c ∷ cs) place p o at_end follows none =
    next_fine file o c p cs _ _ place (begins_chunk place c) refl at_end follows
    (λ b. chunks_fine file cs (moved place c) (longer (empty_at o) c) (o + width c) (omega (arith, size_one c)) (follows_more file place (empty_at o) c (follows_begin file o place c b)))
    (chunks_fine file cs (moved place c) (longer p c) (o + width c) (omega (arith, at_end, size_joined p.text (c ∷ []), size_one c)) (follows_more file place p c follows))
    none

-- ---- a text

read_whole : (file : ℕ) (text : List ℕ) (ds : List Definition) → IsUtf8 text → IsWhole file 0 (chars text) ds → reading file text ≡ Ok ds
read_whole file text ds u h = grind (arith, encodes-chars, by_pieces)

by_result : (file : ℕ) (text : List ℕ) (r : Result (List Definition) Wrong) → IsUtf8 text → reading file text ≡ r
    → (whole_or r (of_parts file (chunks_of (chars text)))).mistakes ≡ [] → reading file text ≡ Ok (whole_or r (of_parts file (chunks_of (chars text)))).definitions
by_result file text (Ok ds) u is e = is
by_result file text (Err w) u is e = read_whole file text _ u (chunks_fine file (chars text) (Within 0) (empty_at 0) 0 refl (λ s f. ap outside (nothing_read between s f)) e)

-- a text where nothing is wrong is read
pub read_if_fine : (file : ℕ) (text : List ℕ) → IsUtf8 text → (recovering file text).mistakes ≡ [] → reading file text ≡ Ok (recovering file text).definitions
read_if_fine file text u = by_result file text (reading file text) u refl

-- a text that is read gives its definitions, and nothing is wrong
pub fine_if_read : (file : ℕ) (text : List ℕ) (ds : List Definition) → reading file text ≡ Ok ds → recovering file text ≡ record { definitions = ds; mistakes = [] }
fine_if_read file text ds e = ap (λ r. whole_or r (of_parts file (chunks_of (chars text)))) e
