-- `unite_by_keys` joins the trees of messages that share a key, key by key.
use Rattle.mail_answer.proofs.Words.{◌≡◌, ◌∙◌, ◌<◌, ℕ, List, ◌∷◌, length, sym, ap, subst, add_steps, any_text, numbers_passing, AllByRecursion, Unites, ShareKey}
use Rattle.mail_index.proofs.ViewLaws.StepLemmas.{add_steps-both}
use Rattle.mail_answer.proofs.ThreadLaws.JoinLemmas.{keys_more}
use Rattle.mail_answer.proofs.threads.forest.unite_by_keys.Goals as goal

pub loop-key-preserved : goal.loop-key-preserved
loop-key-preserved c =
    let p : List ℕ = c.loop-key.parents in
    let key : List ℕ × List ℕ = (c.in-Some.key.text.now, c.in-Some.key.postings) in
    let rest : List (List ℕ × List ℕ) = c.next.new.self in
    let split : c.loop-key.keys ≡ key ∷ rest = c.in-Some.ensures in
    let within : AllByRecursion (λ (k : List ℕ × List ℕ). AllByRecursion (λ n. n < length c.args.parents.now) k.1)
    (key ∷ rest) =
    subst (λ (ks : List (List ℕ × List ℕ)). AllByRecursion
    (λ (k : List ℕ × List ℕ). AllByRecursion (λ n. n < length c.args.parents.now) k.1) ks) split
    c.loop-key.invariant.within in
    record {
      back = c.unite_all.ensures.unites.back c.loop-key.invariant.back;
      within = within.1;
      united = λ later given.
          c.loop-key.invariant.united later (subst (λ (ks : List (List ℕ × List ℕ)). Unites (ShareKey ks) p later)
          (sym split) (keys_more p c.unite_all.new.parents later key rest c.unite_all.ensures.unites given));
      counted =
          ap (λ (s : ℕ). add_steps s (numbers_passing any_text rest)) c.unite_all.ensures.steps
          ∙ add_steps-both c.loop-key.steps (length key.1) (numbers_passing any_text rest)
          ∙ ap (λ (ks : List (List ℕ × List ℕ)). add_steps c.loop-key.steps (numbers_passing any_text ks)) (sym split)
          ∙ c.loop-key.invariant.counted;
    }
