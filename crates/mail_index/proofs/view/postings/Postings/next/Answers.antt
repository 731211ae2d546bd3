-- `Postings::next` returns the first number, because the bytes begin with its difference.
use Rattle.mail_index.proofs.Words.{◌≡◌, ◌∙◌, ◌+◌, ◌-◌, ◌^◌, ◌++◌, ℕ, List, [], ◌∷◌, refl, sym, ap, subst, arith, leb128, IsShort, ArePostings, numbers_read, shown_split}
use Rattle.mail_index.proofs.ViewLaws.PostingReadLemmas.{read-posted, posted-none, posted-front, Front}
use Rattle.mail_index.proofs.view.postings.Postings.next.Goals as goal

module _ (low d : ℕ) (bytes after : List ℕ) (short : IsShort 5 d) (split : bytes ≡ leb128 5 d ++ after)
    (posted : ArePostings (2 ^ 32) low bytes (numbers_read low bytes)) where
  front : Front (2 ^ 32) low d after (numbers_read low bytes)
  front = posted-front (2 ^ 32) low d bytes after (numbers_read low bytes) (omega arith) short split posted

  later : front.later ≡ numbers_read (low + d) after
  later = sym (read-posted (low + d) after front.later front.posted)

  after-posted : ArePostings (2 ^ 32) (low + d) after (numbers_read (low + d) after)
  after-posted = subst (λ (ns : List ℕ). ArePostings (2 ^ 32) (low + d) after ns) later front.posted

  numbers : numbers_read low bytes ≡ (low + d - 1) ∷ numbers_read (low + d) after
  numbers = front.numbers ∙ ap (λ (ns : List ℕ). (low + d - 1) ∷ ns) later

pub overflow_add-self : goal.overflow_add-self
overflow_add-self c = omega (
  arith,
  (front c.self.inside.low c.in_ok-difference.difference c.self.inside.bytes.now
      c.in_ok-difference.after.now c.in_ok-difference.ensures.short c.in_ok-difference.ensures.some
      c.self.invariant).below,
)

pub overflow_sub-result : goal.overflow_sub-result
overflow_sub-result c = omega (
  arith,
  (front c.self.inside.low c.in_ok-difference.difference c.self.inside.bytes.now
      c.in_ok-difference.after.now c.in_ok-difference.ensures.short c.in_ok-difference.ensures.some
      c.self.invariant).some,
)

pub overflow_cast-result : goal.overflow_cast-result
overflow_cast-result c =
    let f = front c.self.inside.low c.in_ok-difference.difference c.self.inside.bytes.now c.in_ok-difference.after.now
    c.in_ok-difference.ensures.short c.in_ok-difference.ensures.some c.self.invariant in
    omega arith

pub invariant_of-self : goal.invariant_of-self
invariant_of-self c =
    after-posted c.self.inside.low c.in_ok-difference.difference c.self.inside.bytes.now c.in_ok-difference.after.now
    c.in_ok-difference.ensures.short c.in_ok-difference.ensures.some c.self.invariant

pub returns : goal.returns
returns c = grind (arith, numbers)

pub returns-in_err-difference : goal.returns-in_err-difference
returns-in_err-difference c =
    let nothing = posted-none _ _ _ _ _ (omega arith) c.split_difference.ensures.only
    (ap shown_split c.in_err-difference.was) c.self.invariant in
    let empty = sym c.self.view_is ∙ nothing in
    rw c.from_residual.ensures (empty, empty, refl)
