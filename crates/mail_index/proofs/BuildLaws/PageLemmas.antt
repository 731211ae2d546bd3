-- The order is kept in pages with a head between each two; reads, insertions and splits of pages are those of one list.
use Rattle.mail_index.proofs.Words.{◌≡◌, ◌∙◌, ℕ, zero, suc, ◌+◌, ◌-◌, ◌<◌, ◌≤◌, List, [], ◌∷◌, ◌++◌, length, take, drop, set, get_or, Vec, refl, sym, ap, subst, arith, append-nil, length-append, Global, AllByRecursion, insert, length-map, get_or-map, append_assoc, get_or_append_left, get_or-append-add, take-map, drop-map, map-append, take-append-drop, get_or-append_seam, insert-append_left, insert-append_right}
use Rattle.mail_index.specs.declared.build.key_front.Fronted.{Fronted}
use Rattle.mail_index.specs.Inside.KeyMaps.{rows, in_pages, position}

-- the slots after a page: each next head, and its page
abbrev after_page : List (List Fronted) → List Fronted → List Fronted
after_page rest [] = []
after_page rest (head ∷ heads) = head ∷ in_pages rest heads

-- the slots of the first page, and those after them
pub in_pages-front : (row : List Fronted) (rest : List (List Fronted)) (heads : List Fronted)
    → in_pages (row ∷ rest) heads ≡ row ++ after_page rest heads
in_pages-front _ _ _ = grind arith

-- ---- an insertion

insert-after : (xs : List Fronted) (y : Fronted) (ys : List Fronted) (i : ℕ) (n : Fronted)
    → insert (xs ++ y ∷ ys) (length xs + suc i) n ≡ xs ++ y ∷ insert ys i n
insert-after xs y ys i n =
    let after : length xs + suc i - length xs ≡ suc i = omega arith in
    cc (insert-append_right xs (y ∷ ys) (length xs) (length xs + suc i) n refl (omega arith))

pub pages-insert : (pages : List (List Fronted)) (heads : List Fronted) (page at : ℕ) (n : Fronted) → length heads
    ≡ length pages - 1 → page < length pages → at ≤ length (get_or pages page [])
    → in_pages (set pages page (insert (get_or pages page []) at n)) heads
    ≡ insert (in_pages pages heads) (position pages page at) n
pages-insert [] _ _ _ n b h w = absurd (omega arith)
pages-insert (row ∷ rest) _ zero _ n b h w = grind (arith, in_pages-front, insert, insert-append_left)
pages-insert (row ∷ rest) [] (suc page) _ n b h w = absurd (omega arith)
pages-insert (row ∷ rest) (head ∷ heads) (suc page) _ n b h w =
    grind (arith, insert-after, pages-insert rest heads page)

-- ---- positions

pub position-step : (pages : List (List Fronted)) (page at : ℕ) → position pages page (suc at)
    ≡ suc (position pages page at)
position-step [] _ _ = refl
position-step (row ∷ rest) zero _ = refl
position-step (row ∷ rest) (suc page) at = omega (arith, position-step rest page at)

pub position-next : (pages : List (List Fronted)) (page : ℕ) → suc page < length pages → position pages (suc page) 0
    ≡ suc (position pages page (length (get_or pages page [])))
position-next [] _ h = absurd (omega arith)
position-next (row ∷ []) _ h = absurd (omega arith)
position-next (row ∷ next ∷ rest) zero h = omega arith
position-next (row ∷ next ∷ rest) (suc page) h = omega (arith, position-next (next ∷ rest) page (omega arith))

length-after : (xs : List Fronted) (y : Fronted) (ys : List Fronted) → length (xs ++ y ∷ ys)
    ≡ length xs + suc (length ys)
length-after xs y ys = length-append _ _

pub position-last : (pages : List (List Fronted)) (heads : List Fronted) (page : ℕ) → length heads ≡ length pages - 1
    → page < length pages → length heads ≤ page
    → position pages page (length (get_or pages page [])) ≡ length (in_pages pages heads)
position-last [] _ _ b h l = absurd (omega arith)
position-last (row ∷ rest) [] zero b h l = ap length (sym (append-nil _))
position-last (row ∷ rest) (head ∷ heads) zero b h l = absurd (omega arith)
position-last (row ∷ rest) [] (suc page) b h l = absurd (omega arith)
position-last (row ∷ rest) (head ∷ heads) (suc page) b h l = grind (
  arith,
  length-after,
  position-last rest heads page (omega arith) (omega arith) (omega arith),
)

pub position-within : (pages : List (List Fronted)) (heads : List Fronted) (page at : ℕ) → length heads
    ≡ length pages - 1 → page < length pages → at ≤ length (get_or pages page [])
    → position pages page at ≤ length (in_pages pages heads)
position-within [] _ _ _ b h w = absurd (omega arith)
position-within (row ∷ rest) _ zero _ b h w = grind (arith, in_pages-front, length-append)
position-within (row ∷ rest) [] (suc page) _ b h w = absurd (omega arith)
position-within (row ∷ rest) (head ∷ heads) (suc page) _ b h w =
    grind (arith, length-after, position-within rest heads page)

-- what comes after a head
get_or-after : (xs : List Fronted) (y : Fronted) (ys : List Fronted) (i : ℕ) (d : Fronted)
    → get_or (xs ++ y ∷ ys) (length xs + suc i) d ≡ get_or ys i d
get_or-after xs y ys i d = get_or-append-add xs (y ∷ ys) (suc i) d

pub at-page : (pages : List (List Fronted)) (heads : List Fronted) (page at : ℕ) (d : Fronted) → length heads
    ≡ length pages - 1 → page < length pages → at < length (get_or pages page [])
    → get_or (in_pages pages heads) (position pages page at) d ≡ get_or (get_or pages page []) at d
at-page [] _ _ _ d b h w = absurd (omega arith)
at-page (row ∷ rest) heads zero at d b h w = ap (λ (l : List Fronted). get_or l at d) (in_pages-front _ _ _)
    ∙ get_or_append_left row (after_page rest heads) d at w
at-page (row ∷ rest) [] (suc page) _ d b h w = absurd (omega arith)
at-page (row ∷ rest) (head ∷ heads) (suc page) _ d b h w = grind (arith, get_or-after, at-page rest heads page)

pub at-head : (pages : List (List Fronted)) (heads : List Fronted) (page : ℕ) (d : Fronted) → length heads
    ≡ length pages - 1 → page < length heads
    → get_or (in_pages pages heads) (position pages page (length (get_or pages page []))) d ≡ get_or heads page d
at-head [] _ _ d b h = absurd (omega arith)
at-head (row ∷ rest) [] _ d b h = absurd (omega arith)
at-head (row ∷ rest) (head ∷ heads) zero d b h = get_or-append_seam row _ (in_pages rest heads) d
at-head (row ∷ rest) (head ∷ heads) (suc page) d b h =
    get_or-after row head (in_pages rest heads) (position rest page (length (get_or rest page []))) d
    ∙ at-head rest heads page d (omega arith) (omega arith)

-- ---- properties of all slots

pub all-append : (P : Fronted → Type 0) (xs ys : List Fronted) → AllByRecursion P (xs ++ ys) → AllByRecursion P xs
    × AllByRecursion P ys
all-append P [] _ all = (tt, all)
all-append P (x ∷ xs) ys all = let both = all-append P xs ys all.1 in ((all.0, both.0), both.1)

pub all-heads : (P : Fronted → Type 0) (pages : List (List Fronted)) (heads : List Fronted) → length heads
    ≡ length pages - 1 → AllByRecursion P (in_pages pages heads) → AllByRecursion P heads
all-heads P _ [] b _ = tt
all-heads P [] (head ∷ heads) b all = absurd (omega arith)
all-heads P (row ∷ []) (head ∷ heads) b all = absurd (omega arith)
all-heads P (row ∷ next ∷ rest) (head ∷ heads) b all =
    let both = all-append P _ (head ∷ in_pages (next ∷ rest) heads) all in
    (both.1.0, all-heads P (next ∷ rest) heads (omega arith) both.1.1)

pub all-page : (P : Fronted → Type 0) (pages : List (List Fronted)) (heads : List Fronted) (page : ℕ) → length heads
    ≡ length pages - 1 → page < length pages → AllByRecursion P (in_pages pages heads)
    → AllByRecursion P (get_or pages page [])
all-page P [] _ _ b h all = absurd (omega arith)
all-page P (row ∷ rest) heads zero b h all = (all-append P _ _ (subst (AllByRecursion P) (in_pages-front _ _ _) all)).0
all-page P (row ∷ rest) [] (suc page) b h all = absurd (omega arith)
all-page P (row ∷ rest) (head ∷ heads) (suc page) b h all = grind (
  arith,
  all-append,
  all-page P rest heads page (omega arith) (omega arith) (all-append P row _ all).1.1,
)

-- ---- a split

pub pages-split : (pages : List (List Fronted)) (heads : List Fronted) (page half : ℕ) (head : Fronted)
    (after : List Fronted) → length heads ≡ length pages - 1 → page < length pages → head ∷ after
    ≡ drop half (get_or pages page [])
    → in_pages (set (insert pages (suc page) after) page (take half (get_or (insert pages (suc page) after) page [])))
    (insert heads page head) ≡ in_pages pages heads
pages-split [] _ _ _ _ _ b h w = absurd (omega arith)
pages-split (row ∷ rest) heads zero half head after b h w =
    cc (
      in_pages-front after rest heads,
      append_assoc (take half row) (head ∷ after) (after_page rest heads),
      take-append-drop half row,
      in_pages-front row rest heads,
    )
pages-split (row ∷ rest) [] (suc page) _ _ _ b h w = absurd (omega arith)
pages-split (row ∷ rest) (next ∷ heads) (suc page) half head after b h w =
    grind (arith, pages-split rest heads page half head after (omega arith) (omega arith) w)

-- ---- the pages' vectors

pub rows-insert : (pages : List (Vec Fronted Global)) (page : ℕ) (v : Vec Fronted Global) → rows (insert pages page v)
    ≡ insert (rows pages) page v.items
rows-insert _ _ v = grind (arith, map-append, take-map, drop-map)

pub inserted : (pages : List (Vec Fronted Global)) (heads : List Fronted) (page at : ℕ) (n : Fronted) → length heads
    ≡ length pages - 1 → page < length pages → at ≤ length (get_or (rows pages) page [])
    → in_pages (set (rows pages) page (insert (get_or (rows pages) page []) at n)) heads
    ≡ insert (in_pages (rows pages) heads) (position (rows pages) page at) n
inserted _ _ _ _ n b h w = grind (arith, length-map, pages-insert)

pub parted : (pages : List (Vec Fronted Global)) (heads : List Fronted) (page half : ℕ) (row : List Fronted)
    (rest : Vec Fronted Global) (head : Fronted) → length heads ≡ length pages - 1 → page < length pages
    → row ≡ get_or (rows pages) page [] → head ∷ rest.items ≡ drop half row
    → in_pages (set (rows (insert pages (page + 1) rest)) page
    (take half (get_or (rows (insert pages (page + 1) rest)) page []))) (insert heads page head)
    ≡ in_pages (rows pages) heads
parted _ _ _ _ _ _ _ b h r s = grind (arith, length-map, insert, rows-insert, set, pages-split)

pub row-is : (pages : List (Vec Fronted Global)) (page : ℕ) (v : Vec Fronted Global) → page < length pages → v
    ≡ get_or pages page v → v.items ≡ get_or (rows pages) page []
row-is pages page v h e = grind (arith, get_or-map)

pub heads-all : (P : Fronted → Type 0) (pages : List (Vec Fronted Global)) (heads : List Fronted) → length heads
    ≡ length pages - 1 → AllByRecursion P (in_pages (rows pages) heads) → AllByRecursion P heads
heads-all P _ _ b all = grind (arith, length-map, all-heads)

pub row-all : (P : Fronted → Type 0) (pages : List (Vec Fronted Global)) (heads : List Fronted) (page : ℕ)
    (row : List Fronted) → length heads ≡ length pages - 1 → page < length pages → row ≡ get_or (rows pages) page []
    → AllByRecursion P (in_pages (rows pages) heads) → AllByRecursion P row
row-all P pages heads page _ b h r all =
    let long = length-map pages (λ (p : Vec Fronted Global). p.items) in
    rw r (all-page P _ _ _ (omega arith) (omega arith) all)

-- ---- a walk
