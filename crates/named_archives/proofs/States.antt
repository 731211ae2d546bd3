-- One more name has one more state, and what is reported of its file.
use Rattle.std.proofs.Common.{◌≡◌, ◌∙◌, ◌<◌, ◌+◌, ℕ, zero, suc, List, [], ◌∷◌, ◌++◌, Option, length, take, get_or, sym, ap, subst, arith}
use Rattle.std.proofs.lemmas.List.{map_push, take_more}
use Rattle.named_files.specs.Entries.{Entry, bytes_of}
use Rattle.named_archives.specs.Names.{files_of}
use Rattle.named_archives.specs.States.{AreStatesOf, IsStateOf}

-- the files of the first names and of one more
pub files-more : {N : Type 0} (text : N → List ℕ) (holds : List ℕ → Entry) (names : List N) (n : ℕ) (name : N)
    → n < length names → name ≡ get_or names n name
    → files_of text holds (take (n + 1) names) ≡ files_of text holds (take n names) ++ bytes_of (holds (text name)) ∷ []
files-more text holds names n name below is =
    ap (files_of text holds) (take_more names n name below)
    ∙ map_push (λ k. bytes_of (holds (text k))) (take n names) (get_or names n name)
    ∙ ap (λ k. files_of text holds (take n names) ++ bytes_of (holds (text k)) ∷ []) (sym is)

module _ {F S : Type 0} (found : F → Option S) (rest : F → Option (List ℕ)) where
  -- one more file has one more state
  pub states-more : (files : List (Option (List ℕ))) (states : List S) (file : Option (List ℕ)) (state : S)
      → length files ≡ length states → AreStatesOf found rest files states → IsStateOf found rest file state
      → AreStatesOf found rest (files ++ file ∷ []) (states ++ state ∷ [])
  states-more [] [] file state long are is zero all here e h =
      let same : file ≡ all = grind arith in
      let also : state ≡ here = grind arith in
      subst (λ k. IsStateOf found rest all k) also (subst (λ k. IsStateOf found rest k state) same is)
  states-more [] [] file state long are is (suc n) all here e h = absurd cc
  states-more [] (y ∷ states) file state long are is n all here e h = absurd (omega (arith, long))
  states-more (x ∷ files) [] file state long are is n all here e h = absurd (omega (arith, long))
  states-more (x ∷ files) (y ∷ states) file state long are is zero all here e h = are zero all here e h
  states-more (x ∷ files) (y ∷ states) file state long are is (suc n) all here e h =
      states-more files states file state (omega (arith, long)) (λ k. are (suc k)) is n all here e h
