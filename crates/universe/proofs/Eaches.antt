-- What holds of each item of a list by its number, and items read in a row.
use Rattle.std.proofs.Common.{◌≡◌, ℕ, zero, suc, ◌+◌, ◌<◌, Bool, true, false, List, [], ◌∷◌, ◌++◌, length, get_or, drop, replicate, Ok, Err, sym, refl, ap, ◌∙◌, add-zero, add-suc, suc-add, add-one, arith}
use Rattle.std.proofs.lemmas.List.{append_assoc, drop-drop, get_or_at, length_push}
use Rattle.std.specs.List.{flat_map}
use Rattle.universe.specs.declared.refusal.UniverseRefusal.{UniverseRefusal}
use Rattle.universe.specs.Reading.{Read, refused_if, and_then, many, total}

-- P holds of each item, with its number; the first has the number q
abbrev pub Each : {X : Type 0} → (ℕ → X → Type 0) → ℕ → List X → Type 0
Each P q [] = Unit {0}
Each P q (x ∷ xs) = P q x × Each P (suc q) xs

pub each_map : {X : Type 0} {P Q : ℕ → X → Type 0} → ((i : ℕ) (x : X) → P i x → Q i x) → (q : ℕ) (xs : List X) → Each P q xs → Each Q q xs
each_map f q [] e = tt
each_map f q (x ∷ xs) e = (f q x e.0, each_map f (suc q) xs e.1)

pub each_both : {X : Type 0} {P Q R : ℕ → X → Type 0} → ((i : ℕ) (x : X) → P i x → Q i x → R i x) → (q : ℕ) (xs : List X) → Each P q xs → Each Q q xs → Each R q xs
each_both f q [] d e = tt
each_both f q (x ∷ xs) d e = (f q x d.0 e.0, each_both f (suc q) xs d.1 e.1)

pub each_at : {X : Type 0} (P : ℕ → X → Type 0) (q : ℕ) (xs : List X) (d : X) → Each P q xs → (i : ℕ) → i < length xs → P (q + i) (get_or xs i d)
each_at P q [] d e i l = absurd (omega arith)
each_at P q (x ∷ xs) d e zero l = rw (add-zero q) e.0
each_at P q (x ∷ xs) d e (suc i) l = rw (add-suc q i, ← suc-add q i) (each_at P (suc q) xs d e.1 i (omega arith))

-- what was handed on was read before
pub then_ok : {X Y : Type 0} (r : Read X) (f : X → Read Y) (y : Y) → and_then r f ≡ Ok y → (x : X) × (r ≡ Ok x) × (f x ≡ Ok y)
then_ok (Ok x) f y e = (x, refl, e)
then_ok (Err d) f y e = absurd (let z : ◌≡◌ {A = ℕ} 0 1 = cc in omega arith)

-- what is not refused failed the test
pub if_ok : {X : Type 0} (b : Bool) (e : UniverseRefusal) (r : Read X) (x : X) → refused_if b e r ≡ Ok x → (b ≡ false) × (r ≡ Ok x)
if_ok true e r x h = absurd (let z : ◌≡◌ {A = ℕ} 0 1 = cc in omega arith)
if_ok false e r x h = (refl, h)

pub ok_same : {X : Type 0} (x y : X) → ◌≡◌ {A = Read X} (Ok x) (Ok y) → x ≡ y
ok_same x y e = cc

-- what each reading tells, the readings in a row tell of each item; B holds of the bytes that are read
pub many_each : {X : Type 0} (one : ℕ → List ℕ → Read X) (size : X → ℕ) (B : List ℕ → Type 0) (P : ℕ → X → Type 0)
    → ((k : ℕ) (bs : List ℕ) → B bs → B (drop k bs)) → ((q : ℕ) (bs : List ℕ) (x : X) → B bs → one q bs ≡ Ok x → P q x)
    → (n q : ℕ) (bs : List ℕ) (xs : List X) → B bs → many one size q n bs ≡ Ok xs → Each P q xs × (length xs ≡ n)
unfolding many
many_each one size B P rest tells zero q bs xs b e = rw (sym (ok_same [] xs e)) (tt, refl)
many_each one size B P rest tells (suc n) q bs xs b e =
    let a = then_ok (one q bs) _ xs e in
    let m = then_ok (many one size (suc q) n (drop (size a.0) bs)) _ xs a.2 in
    let more = many_each one size B P rest tells n (suc q) (drop (size a.0) bs) m.0 (rest (size a.0) bs b) m.1 in
    rw (sym (ok_same (a.0 ∷ m.0) xs m.2)) ((tells q bs a.0 b a.1, more.0), ap suc more.1)

-- where each item's form stands at the front of what it was read from, so do the forms of all
pub many_forms : {X : Type 0} (one : ℕ → List ℕ → Read X) (size : X → ℕ) (B : List ℕ → Type 0) (form : X → List ℕ)
    → ((k : ℕ) (bs : List ℕ) → B bs → B (drop k bs)) → ((q : ℕ) (bs : List ℕ) (x : X) → B bs → one q bs ≡ Ok x → bs ≡ form x ++ drop (size x) bs)
    → (n q : ℕ) (bs : List ℕ) (xs : List X) → B bs → many one size q n bs ≡ Ok xs → bs ≡ flat_map form xs ++ drop (total size xs) bs
unfolding many total
many_forms one size B form rest front zero q bs xs b e = rw (sym (ok_same [] xs e)) refl
many_forms one size B form rest front (suc n) q bs xs b e =
    let a = then_ok (one q bs) _ xs e in
    let m = then_ok (many one size (suc q) n (drop (size a.0) bs)) _ xs a.2 in
    let more = many_forms one size B form rest front n (suc q) (drop (size a.0) bs) m.0 (rest (size a.0) bs b) m.1 in
    rw (sym (ok_same (a.0 ∷ m.0) xs m.2))
    (front q bs a.0 b a.1 ∙ (ap (λ l. form a.0 ++ l) (more ∙ ap (λ l. flat_map form m.0 ++ l) (drop-drop (total size m.0) (size a.0) bs)) ∙ sym (append_assoc (form a.0) (flat_map form m.0) (drop (size a.0 + total size m.0) bs))))

-- forms in a row are read back, where each form is
pub many_reads : {X : Type 0} (one : ℕ → List ℕ → Read X) (size : X → ℕ) (form : X → List ℕ) (P : ℕ → X → Type 0)
    → ((q : ℕ) (x : X) (rest : List ℕ) → P q x → (one q (form x ++ rest) ≡ Ok x) × (drop (size x) (form x ++ rest) ≡ rest))
    → (q : ℕ) (xs : List X) (rest : List ℕ) → Each P q xs → many one size q (length xs) (flat_map form xs ++ rest) ≡ Ok xs
unfolding many
many_reads one size form P reads q [] rest e = refl
many_reads one size form P reads q (x ∷ xs) rest e =
    let r = reads q x (flat_map form xs ++ rest) e.0 in
    rw (append_assoc (form x) (flat_map form xs) rest, r.0, r.1, many_reads one size form P reads (suc q) xs rest e.1)

-- what stands behind the list does not change its items
pub each_places : {X : Type 0} (d : X) (ys xs zs : List X) → Each (λ i x. get_or (zs ++ (xs ++ ys)) i d ≡ x) (length zs) xs
each_places d ys [] zs = tt
each_places d ys (x ∷ xs) zs =
    let more : Each (λ i y. get_or (zs ++ (x ∷ (xs ++ ys))) i d ≡ y) (length (zs ++ (x ∷ []))) xs =
    each_map (λ i y e. sym (ap (λ l. get_or l i d) (append_assoc zs (x ∷ []) (xs ++ ys))) ∙ e) _ xs (each_places d ys xs (zs ++ (x ∷ []))) in
    (get_or_at zs x (xs ++ ys) d (length zs) refl, (rw (length_push zs x, add-one) at more))

-- places that hold the default hold nothing else
pub get_d_filled : {X : Type 0} (d : X) (m : ℕ) (xs : List X) (i : ℕ) → get_or (xs ++ replicate m d) i d ≡ get_or xs i d
get_d_filled d zero [] i = refl
get_d_filled d (suc m) [] zero = refl
get_d_filled d (suc m) [] (suc i) = get_d_filled d m [] i
get_d_filled d m (x ∷ xs) zero = refl
get_d_filled d m (x ∷ xs) (suc i) = get_d_filled d m xs i
