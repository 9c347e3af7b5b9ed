-- What is printed is read as what was to be printed, but for places.
use Rattle.std.proofs.Common.{◌≡◌, ℕ, refl, sym, ap, ◌∙◌, subst, List, [], ◌∷◌, ◌++◌, map, arith}
use Rattle.std.specs.Prelude.{Bool, true, None, Result, Ok}
use Rattle.std.specs.List.{list_all}
use Rattle.std.proofs.lemmas.Grind.{common_steps}
use Rattle.model.specs.lists.Syntax.{Definition}
use Rattle.text_reader.specs.Lexemes.{Wrong, ◌>>=◌}
use Rattle.text_reader.specs.FormTrees.{FormTree}
use Rattle.text_reader.specs.Definitions.{definition_of, definitions_of, reading, Spells}
use Rattle.text_reader.proofs.Spelled.{spelled_if_given}
use Rattle.text_writer.specs.Placeless.{placeless_definition}
use Rattle.text_writer.specs.Forms.{form_of}
use Rattle.text_writer.specs.Texts.{written, printed}
use Rattle.text_writer.specs.Spellable.{can_be_spelled, first_unspelled}
use Rattle.text_writer.specs.ReadsBack.{ReadsBackAs}
use Rattle.text_writer.proofs.WordParts.{both}
use Rattle.text_writer.proofs.FormsRead.{definition_read}
use Rattle.text_writer.proofs.Bare.{bared, definition_bare}
use Rattle.text_writer.proofs.Twice.{definition_twice}
use Rattle.text_writer.proofs.Fine.{definition_fits, fine_anyway, fine_dashes}
use Rattle.text_writer.proofs.Placed.{placed, placed_bare}
use Rattle.text_writer.proofs.Lines.{StandsAlone, AllStand, lines, line_end, lines_placed, lines_forms}

pub good : {A B : Type 0} (g : A → B) (r : Result A Wrong) (y : B) → bared g r ≡ Ok y → (x : A) × (r ≡ Ok x) × (g x ≡ y)
good g r y e = grind (arith, common_steps)

pub two : {A : Type 0} (r : Result A Wrong) (s : Result (List A) Wrong) (x : A) (xs : List A) → r ≡ Ok x → s ≡ Ok xs → r >>= (λ y. s >>= (λ ys. Ok (y ∷ ys))) ≡ Ok (x ∷ xs)
two r s x xs e f = rw (e, f) refl

pair : {x y : Definition} {xs ys : List Definition} → x ≡ y → xs ≡ ys → x ∷ xs ≡ y ∷ ys
pair e f = rw (e, f) refl

-- what is written as forms that stand on lines of their own, and is read as definitions
module _ {A : Type 0} (form : A → FormTree) (definition : A → Definition) (test : A → Bool)
    (read : (x : A) → test x ≡ true → definition_of (form x) ≡ Ok (placeless_definition (definition x)))
    (stands : (x : A) → test x ≡ true → StandsAlone (form x)) where
  pub all_stand : (xs : List A) → list_all test xs ≡ true → AllStand (map form xs)
  all_stand [] h = tt
  all_stand (x ∷ xs) h = grind (arith, common_steps, all_stand xs, both)

  -- one that stands anywhere
  there : (file o : ℕ) (x : A) → test x ≡ true
      → (e : Definition) × (definition_of (placed file o (form x)) ≡ Ok e) × (placeless_definition e ≡ placeless_definition (definition x))
  there file o x h = good placeless_definition (definition_of (placed file o (form x))) (placeless_definition (definition x))
      (definition_bare (placed file o (form x))
      ∙ ap definition_of (placed_bare file o (form x))
      ∙ sym (definition_bare (form x))
      ∙ ap (bared placeless_definition) (read x h)
      ∙ ap Ok (definition_twice (definition x)))

  all_there : (file : ℕ) (xs : List A) (o : ℕ) → list_all test xs ≡ true
      → (es : List Definition) × (definitions_of (lines_placed file o (map form xs)) ≡ Ok es) × (map placeless_definition es ≡ map (λ x. placeless_definition (definition x)) xs)
  all_there file [] o h = ([], refl, refl)
  all_there file (x ∷ xs) o h =
      let k = both (test x) (list_all test xs) h in
      let one = there file o x k.0 in
      let rest = all_there file xs (line_end file o (form x)) k.1 in
      let more = lines_placed file (line_end file o (form x)) (map form xs) in
      (one.0 ∷ rest.0, two (definition_of (placed file o (form x))) (definitions_of more) one.0 rest.0 one.1 rest.1, pair one.2 rest.2)

  pub all_spelled_back : (xs : List A) → list_all test xs ≡ true → (file : ℕ)
      → (es : List Definition) × Spells file (lines (map form xs)) es × (map placeless_definition es ≡ map (λ x. placeless_definition (definition x)) xs)
  all_spelled_back xs h file =
      let found = all_there file xs 0 h in
      let given : reading file (lines (map form xs)) ≡ Ok found.0 = ap (λ r. r >>= definitions_of) (lines_forms file (map form xs) (all_stand xs h)) ∙ found.1 in
      (found.0, spelled_if_given file (lines (map form xs)) found.0 given, found.2)

-- the form of a definition stands on a line of its own
pub definition_stands : (d : Definition) → can_be_spelled d ≡ true → StandsAlone (form_of d)
definition_stands d h = grind (arith, common_steps, definition_fits d h, fine_anyway (form_of d), fine_dashes (form_of d))

printed_lines : (ds : List Definition) → printed ds ≡ lines (map form_of ds)
printed_lines [] = refl
printed_lines (d ∷ ds) = ap (λ t. written (form_of d) ++ 10 ∷ t) (printed_lines ds)

pub reads_back : (ds : List Definition) → list_all can_be_spelled ds ≡ true → ReadsBackAs (printed ds) ds
unfolding ReadsBackAs
reads_back ds h file =
    subst (λ t. (es : List Definition) × Spells file t es × (map placeless_definition es ≡ map placeless_definition ds)) (sym (printed_lines ds))
    (all_spelled_back form_of (λ d. d) can_be_spelled definition_read definition_stands ds h file)

-- where none is the first that can't be spelled, all can be
all_spellable : (ds : List Definition) → first_unspelled ds ≡ None → list_all can_be_spelled ds ≡ true
all_spellable [] e = refl
all_spellable (d ∷ ds) e = grind (arith, common_steps, all_spellable ds, good)

pub printed_reads_back : (text : List ℕ) (ds : List Definition) → first_unspelled ds ≡ None → text ≡ printed ds → ReadsBackAs text ds
printed_reads_back text ds none is = subst (λ t. ReadsBackAs t ds) (sym is) (reads_back ds (all_spellable ds none))
