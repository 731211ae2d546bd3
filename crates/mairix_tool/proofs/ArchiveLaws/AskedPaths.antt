-- The paths that a run reads are valid paths, as many as the rcfile has, because the rcfile's reader checks them.
use Rattle.mairix_tool.proofs.Words.{◌≡◌, ◌++◌, ℕ, List, [], ◌∷◌, length, map, append-nil, All, IfOk, Result, Ok, refl, sym, ap, subst, arith, join_by, join_with_byte, IsPath, Query, Fault, Wanted, wanted_of_words, wanted_of_plan, asked_rc, query_asked, wanted_by}
use Rattle.contract_words.specs.Answers.{◌>>=◌, fault_as}
use Rattle.mail_query.specs.declared.fault.QueryFault.{QueryFault}
use Rattle.run_faults.specs.declared.fault.Fault.TheVariants as of
use Rattle.mairix_options.specs.declared.command_line.Plan.{Plan}
use Rattle.mairix_options.specs.declared.command_line.UsageFault.{UsageFault}
use Rattle.mairix_options.specs.declared.rcfile.Rc.{Rc}
use Rattle.mairix_options.specs.declared.rcfile.RcFault.{RcFault}
use Rattle.mairix_options.specs.Rcfile.{rc_of}
use Rattle.mairix_options.proofs.RcPaths.{paths-are-paths}

-- what words, rcfile and query mean, step by step
abbrev asked-by : Result Plan UsageFault → Result Rc RcFault → (Plan → Result Query QueryFault) → Result Wanted Fault
asked-by planned read queried = fault_as of.Usage planned >>= λ p. fault_as of.Rc read >>=
    λ r. fault_as of.Query (queried p) >>= λ q. Ok (wanted_by p r q)

paths-by : (planned : Result Plan UsageFault) (read : Result Rc RcFault) (queried : Plan → Result Query QueryFault)
    (w : Wanted) → asked-by planned read queried ≡ Ok w → (r : Rc) × (read ≡ Ok r) × (w.paths ≡ r.paths)
paths-by = grind arith

pub asked-paths : (words : List (List ℕ)) (rc : List ℕ) (now : ℕ) (w : Wanted) → wanted_of_words words rc now ≡ Ok w
    → All IsPath w.paths
asked-paths words rc now w is =
    let found = paths-by _ _ _ w is in
    subst (All IsPath) (sym found.2) (paths-are-paths _ _ found.1)

-- if words, rcfile and query are accepted, the rcfile has this many paths
many-by : (planned : Result Plan UsageFault) (read : Result Rc RcFault) (queried : Plan → Result Query QueryFault)
    (n : ℕ) (more : Rc → Type 0)
    → IfOk (fault_as of.Usage planned >>= λ p. fault_as of.Rc read) (λ r. (length r.paths ≡ n) × more r)
    → IfOk (asked-by planned read queried) (λ w. length w.paths ≡ n)
many-by = grind arith

pub asked-many : (words : List (List ℕ)) (rc : List ℕ) (now n : ℕ) (more : Rc → Type 0)
    → IfOk (asked_rc words rc) (λ r. (length r.paths ≡ n) × more r)
    → IfOk (wanted_of_words words rc now) (λ w. length w.paths ≡ n)
asked-many words rc now n more given = many-by _ _ _ n
    _ given

-- if rcfile and query are accepted, the run does what these say
answered-by : (read : Result Rc RcFault) (queried : Result Query QueryFault) (p : Plan) (r : Rc) (q : Query) → read
    ≡ Ok r → queried ≡ Ok q
    → (fault_as of.Rc read >>= λ r. fault_as of.Query queried >>= λ q. Ok (wanted_by p r q)) ≡ Ok (wanted_by p r q)
answered-by = grind arith

pub asked-in-full : (p : Plan) (rc : List ℕ) (now : ℕ) (r : Rc) (q : Query) → rc_of rc ≡ Ok r
    → query_asked p.boolean p.patterns now ≡ Ok q → wanted_of_plan p rc now ≡ Ok (wanted_by p r q)
asked-in-full p rc now r q of_rc of_query =
    answered-by _ _ p r q of_rc of_query

-- ---- the text of a boolean query

pub joined-by-spaces : {X : Type 0} (f : X → List ℕ) (xs : List X) → join_by f (32 ∷ []) xs
    ≡ join_with_byte 32 (map f xs)
joined-by-spaces f [] = refl
joined-by-spaces f (x ∷ []) = append-nil (f x)
joined-by-spaces f (x ∷ y ∷ xs) = ap (λ rest. f x ++ (32 ∷ rest)) (joined-by-spaces f (y ∷ xs))
