-- The parts of a test that holds.
use Rattle.std.proofs.Common.{◌≡◌, ◌==◌, ℕ, List, [], ◌∷◌, refl, sym, ◌∙◌, arith}
use Rattle.std.specs.Prelude.{Bool, true, false, not, ◌&&◌, ◌||◌, codes}
use Rattle.std.proofs.lemmas.Bool.{false≢true, true≢false}
use Rattle.model.specs.lists.Syntax.{Name}
use Rattle.text_reader.specs.Grammar.{reads}
use Rattle.text_reader.specs.Lexemes.{begins_number}
use Rattle.std.specs.List.{list_all}
use Rattle.std.specs.Char.{is_ascii_digit}
use Rattle.std.specs.Str.{chars, is_utf8}
use Rattle.std.proofs.lemmas.Grind.{common_steps}
use Rattle.text_reader.specs.Pieces.{is_in_word}
use Rattle.text_writer.specs.Spellable.{begins_word, begins_any_word, has_word_characters, is_some_text, is_word, is_any_word, is_constant_name, is_truth, is_pattern_variable, is_pattern_head, is_expr_variable, is_expr_head}

pub both : (a b : Bool) → (a && b) ≡ true → (a ≡ true) × (b ≡ true)
both a b e = grind (arith, common_steps)

pub three : (a b c : Bool) → (a && b && c) ≡ true → (a ≡ true) × (b ≡ true) × (c ≡ true)
three a b c e = grind (arith, common_steps)

pub four : (a b c d : Bool) → (a && b && c && d) ≡ true → (a ≡ true) × (b ≡ true) × (c ≡ true) × (d ≡ true)
four a b c d e = grind (arith, common_steps)

pub six : (a b c d e f : Bool) → (a && b && c && d && e && f) ≡ true → (a ≡ true) × (b ≡ true) × (c ≡ true) × (d ≡ true) × (e ≡ true) × (f ≡ true)
six a b c d e f h = grind (arith, common_steps)

pub unless : (a : Bool) → not a ≡ true → a ≡ false
unless a e = grind (arith, common_steps)

pub neither : (a b : Bool) → not (a || b) ≡ true → (a ≡ false) × (b ≡ false)
neither a b e = grind (arith, common_steps)

-- ---- names

pub word_parts : (n : Name) → is_word n ≡ true → (begins_word n.text ≡ true) × (has_word_characters n.text ≡ true)
unfolding is_word
word_parts n h = both (begins_word n.text) (has_word_characters n.text) h

pub constant_parts : (n : Name) → is_constant_name n ≡ true → (is_some_text n.text ≡ true) × (has_word_characters n.text ≡ true)
unfolding is_constant_name
constant_parts n h = both (is_some_text n.text) (has_word_characters n.text) h

pub character_parts : (t : List ℕ) → has_word_characters t ≡ true → (is_utf8 t ≡ true) × (list_all is_in_word (chars t) ≡ true)
unfolding has_word_characters
character_parts t h = both (is_utf8 t) (list_all is_in_word (chars t)) h

pub beginning_parts : (b : ℕ) (bs : List ℕ) → begins_word (b ∷ bs) ≡ true → ((b == 36) ≡ false) × ((b == 45) ≡ false) × (is_ascii_digit b ≡ false)
unfolding begins_word
beginning_parts b bs h =
    let k = three (not (b == 36)) (not (b == 45)) (not (is_ascii_digit b)) h in
    (unless (b == 36) k.0, unless (b == 45) k.1, unless (is_ascii_digit b) k.2)

pub nothing_begins : begins_word [] ≡ false
unfolding begins_word
nothing_begins = refl

pub any_word_parts : (n : Name) → is_any_word n ≡ true → (begins_any_word n.text ≡ true) × (has_word_characters n.text ≡ true)
unfolding is_any_word
any_word_parts n h = both (begins_any_word n.text) (has_word_characters n.text) h

pub any_beginning_parts : (b : ℕ) (bs : List ℕ) → begins_any_word (b ∷ bs) ≡ true → ((b == 36) ≡ false) × (begins_number (b ∷ bs) ≡ false)
unfolding begins_any_word
any_beginning_parts b bs h =
    let k = both (not (b == 36)) (not (begins_number (b ∷ bs))) h in
    (unless (b == 36) k.0, unless (begins_number (b ∷ bs)) k.1)

pub any_beginning_some : (t : List ℕ) → begins_any_word t ≡ true → is_some_text t ≡ true
unfolding begins_any_word
any_beginning_some [] h = absurd (false≢true h)
any_beginning_some (b ∷ bs) h = refl

pub nothing_begins_any : begins_any_word [] ≡ false
unfolding begins_any_word
nothing_begins_any = refl

-- a word that doesn't begin with `-` is a word
begins_any : (t : List ℕ) → begins_word t ≡ true → begins_any_word t ≡ true
unfolding begins_any_word
begins_any [] h = absurd (true≢false (sym h ∙ nothing_begins))
begins_any (b ∷ bs) h =
    let k = beginning_parts b bs h in
    let none : begins_number (b ∷ bs) ≡ false = rw k.1 k.2 in
    rw (k.0, none) refl

pub word_is_any : (n : Name) → is_word n ≡ true → is_any_word n ≡ true
unfolding is_any_word
word_is_any n h =
    let k = word_parts n h in
    rw (begins_any n.text k.0, k.1) refl

pub truth_parts : (n : Name) → not (is_truth n) ≡ true → (reads n (codes "true") ≡ false) × (reads n (codes "false") ≡ false)
unfolding is_truth
truth_parts n e = neither (reads n (codes "true")) (reads n (codes "false")) e

pub variable_parts : (n : Name) → is_pattern_variable n ≡ true → (is_word n ≡ true) × (reads n (codes "_") ≡ false) × (reads n (codes "true") ≡ false) × (reads n (codes "false") ≡ false)
unfolding is_pattern_variable
variable_parts n e =
    let h = three (is_word n) (not (reads n (codes "_"))) (not (is_truth n)) e in
    let t = truth_parts n h.2 in
    (h.0, unless (reads n (codes "_")) h.1, t.0, t.1)

pub pattern_head_parts : (n : Name) → is_pattern_head n ≡ true → (is_word n ≡ true) × (reads n (codes "and") ≡ false) × (reads n (codes "macro-arg") ≡ false)
unfolding is_pattern_head
pattern_head_parts n e =
    let h = three (is_word n) (not (reads n (codes "and"))) (not (reads n (codes "macro-arg"))) e in
    (h.0, unless (reads n (codes "and")) h.1, unless (reads n (codes "macro-arg")) h.2)

pub expr_variable_parts : (n : Name) → is_expr_variable n ≡ true → (is_word n ≡ true) × (reads n (codes "true") ≡ false) × (reads n (codes "false") ≡ false)
unfolding is_expr_variable
expr_variable_parts n e =
    let h = both (is_word n) (not (is_truth n)) e in
    let t = truth_parts n h.1 in
    (h.0, t.0, t.1)

pub expr_head_parts : (n : Name) → is_expr_head n ≡ true → (is_word n ≡ true) × (reads n (codes "let") ≡ false)
unfolding is_expr_head
expr_head_parts n e =
    let h = both (is_word n) (not (reads n (codes "let"))) e in
    (h.0, unless (reads n (codes "let")) h.1)
