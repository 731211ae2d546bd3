-- Rows of command lines, each with its plan or its refusal.
use Rattle.mairix_options.proofs.Words.{◌≡◌, ℕ, ◌==◌, codes, refl, List, [], ◌∷◌, map, true, false, None, Some, Ok, Err, slice_split, parse, plan, Plan, UsageFault}
use Rattle.clap.proofs.OnLiterals.{clap_on_literals}
use Rattle.mairix_options.specs.declared.command_line.UsageFault.TheVariants.{Parse, TwoFormats, Help, Version}

-- the words of a line, with one space between each two
abbrev words : List ℕ → List (List ℕ)
words = slice_split (λ b. b == 0x20)

-- the plan of an rcfile and patterns, without any other option
abbrev plain : List ℕ → List (List ℕ) → Plan
plain rcfile patterns = record {
  rcfile = rcfile;
  raw = false;
  excerpt = false;
  threads = false;
  mfolder = None;
  stdout
      = false;
  boolean = false;
  once = false;
  verify = false;
  patterns = patterns;
}

-- the same with the rcfile `rc` and the patterns of a line
abbrev rc : List ℕ → Plan
rc line = plain (codes "rc") (words line)

abbrev Plans : List ℕ → Plan → Type 0
Plans line p = plan (words line) ≡ Ok p

-- each of these lines is refused with this fault
abbrev Refuses : List (List ℕ) → UsageFault → Type 0
Refuses lines fault = map (λ line. plan (words line)) lines ≡ map (λ _. Err fault) lines

accepted : Plans (codes "-f rc") (plain (codes "rc") [])
    × Plans (codes "-f rc -r --once s:hello") (record (rc (codes "s:hello")) { raw = true; once = true })
    × Plans (codes "-frc s:a") (rc (codes "s:a"))
    × Plans (codes "-f=rc") (plain (codes "rc") [])
    × Plans (codes "-rfRC") (record (plain (codes "RC") []) { raw = true })
    × Plans (codes "-f=") (plain [] [])
    × Plans (codes "-f -") (plain (codes "-") [])
    × (plan (codes "-f" ∷ (103 ∷ 114 ∷ 195 ∷ 182 ∷ 195 ∷ 159 ∷ 101 ∷ []) ∷ [])
    ≡ Ok (plain (103 ∷ 114 ∷ 195 ∷ 182 ∷ 195 ∷ 159 ∷ 101 ∷ []) []))
    × Plans (codes "-f rc -") (rc (codes "-"))
    -- the last word is empty
    × Plans (codes "-f rc ") (rc [])
    × Plans (codes "s:a --once -f rc -r") (record (rc (codes "s:a")) { raw = true; once = true })
    × Plans (codes "-f rc -- -r") (rc (codes "-r"))
    × Plans (codes "-f rc --") (plain (codes "rc") [])
    × Plans (codes "-f rc help") (rc (codes "help"))
    × Plans (codes "-f rc s:b s:a") (rc (codes "s:b s:a"))
    × Plans (codes "-f rc b:x s:a b:x") (rc (codes "b:x s:a b:x"))
    × Plans (codes "s:a -r s:b -f rc s:c --once") (record (rc (codes "s:a s:b s:c")) { raw = true; once = true })
    × Plans (codes "-f rc -- -r -h") (rc (codes "-r -h"))
    × Plans (codes "-f rc s:a -- -r --") (rc (codes "s:a -r --"))
    × Plans (codes "-frc s:a --verify") (record (rc (codes "s:a")) { verify = true })
    × Plans (codes "-xfrc s:a") (record (rc (codes "s:a")) { excerpt = true })
    × Plans (codes "-frc -o=hits -- -x") (record (rc (codes "-x")) { mfolder = Some (codes "hits") })
    × (plan (codes "-f" ∷ codes "rc" ∷ codes "-rt" ∷ codes "-o" ∷ codes "hits" ∷ codes "--stdout" ∷ codes "--boolean" ∷
    codes "--once" ∷ codes "--verify" ∷ codes "a or b" ∷ [])
    ≡ Ok (record (plain (codes "rc") (codes "a or b" ∷ [])) {
      raw = true;
      threads = true;
      mfolder = Some (codes "hits");
      stdout = true;
      boolean = true;
      once = true;
      verify
          = true;
    }))
unfolding parse plan clap_on_literals
accepted = (
  refl,
  refl,
  refl,
  refl,
  refl,
  refl,
  refl,
  refl,
  refl,
  refl,
  refl,
  refl,
  refl,
  refl,
  refl,
  refl,
  refl,
  refl,
  refl,
  refl,
  refl,
  refl,
  refl,
)

refused : (plan [] ≡ Err Parse)
    -- no rcfile, no value
    × Refuses (codes "-r s:a" ∷ codes "s:a s:b" ∷ codes "-r -x s:a" ∷ codes "-r -f" ∷ codes "-f -h" ∷ []) Parse
    -- unknown options, and values that an option doesn't take
    × Refuses (codes "-f rc -z" ∷ codes "-f rc -b" ∷ codes "-f rc --onc" ∷ codes "-f rc --excerpt" ∷ codes
    "-f rc s:a -z s:b" ∷ codes "-f rc -r=x" ∷ codes "-f rc --once=1" ∷ codes "-f rc --verify=1" ∷ []) Parse
    -- an option given twice
    × Refuses (codes "-f a -f b" ∷ codes "-f rc -r -r" ∷ codes "-f rc -rr" ∷ codes "-f rc -o a -o b" ∷ codes
    "-f rc --once --once" ∷ codes "-f rc --verify --verify" ∷ []) Parse
    -- these faults are reported before help, and help before others
    × Refuses (codes "-r -r -h" ∷ codes "-z -h" ∷ []) Parse
    × Refuses (codes "-h" ∷ codes "--help" ∷ codes "-rh" ∷ codes "-r -h" ∷ codes "-h -r -r" ∷ codes "-r -x -h" ∷ codes
    "s:a s:b -h" ∷ []) Help
    × Refuses (codes "-V" ∷ codes "--version" ∷ codes "-V -z" ∷ codes "-V -h" ∷ []) Version
    × Refuses (codes "-f rc -r -x s:a" ∷ codes "-xrfrc" ∷ []) TwoFormats
unfolding parse plan clap_on_literals
refused = (refl, refl, refl, refl, refl, refl, refl, refl)
