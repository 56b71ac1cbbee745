-- What was read is packed again to the bytes that it was read from.
use Rattle.std.proofs.lemmas.Grind.{common_steps}
use Rattle.std.proofs.Common.{◌≡◌, ℕ, zero, suc, ◌+◌, ◌-◌, ◌*◌, ◌/◌, ◌%◌, ◌^◌, ◌<◌, ◌≤◌, ltb, List, [], ◌∷◌, ◌++◌, length, get_or, take, drop, replicate, Ok, sym, refl, ap, ◌∙◌, arith}
use Rattle.std.proofs.lemmas.List.{append-nil, drop-drop, drop_all, take_at, get_or-drop}
use Rattle.std.proofs.lemmas.Bool.{ltb-false}
use Rattle.std.specs.List.{flat_map}
use Rattle.universe.specs.declared.tables.State.{State}
use Rattle.universe.specs.declared.tables.Kind.{Kind}
use Rattle.universe.specs.declared.tables.Tables.{Tables}
use Rattle.universe.specs.Sets.{has, field}
use Rattle.universe.specs.Tables.{unused_kind, blank_state, blank_kind, kind_at, universe_of}
use Rattle.universe.specs.Reading.{many, count_read, count_of, state_read, state_size, kind_of, kind_read, kind_size, tables_of, total, tables_read, word_at}
use Rattle.universe.specs.Packed.{word_form, state_form, entry_of, rows, kind_form, header_bits, packed_form}
use Rattle.universe.proofs.Manies.{total_states}
use Rattle.universe.proofs.PackedSets.{field_has}
use Rattle.universe.proofs.Eaches.{Each, each_both, each_places, then_ok, if_ok, ok_same, many_each, many_forms}
use Rattle.universe.proofs.Checked.{state_told, count_told, header_told, file_read}

-- every place holds a byte
abbrev pub Bytes : List ℕ → Type 0
Bytes bs = (i : ℕ) → get_or bs i 0 < 2 ^ 8

bytes_drop : (k : ℕ) (bs : List ℕ) → Bytes bs → Bytes (drop k bs)
bytes_drop k bs b i = rw (get_or-drop k bs i 0) (b (k + i))

-- the n places from i on
abbrev places : List ℕ → ℕ → ℕ → List ℕ
places bs i zero = []
places bs i (suc n) = get_or bs i 0 ∷ places bs (suc i) n

-- a list is its first n places, and what comes behind them
front : (n : ℕ) (bs : List ℕ) → n ≤ length bs → bs ≡ places bs 0 n ++ drop n bs
front n bs l = go n 0 bs l
  where
    later : (n i : ℕ) (b : ℕ) (bs : List ℕ) → places (b ∷ bs) (suc i) n ≡ places bs i n
    later zero i b bs = refl
    later (suc n) i b bs = ap (λ l. get_or bs i 0 ∷ l) (later n (suc i) b bs)

    go : (n i : ℕ) (bs : List ℕ) → n ≤ length bs → bs ≡ places bs 0 n ++ drop n bs
    go zero i bs l = refl
    go (suc n) i [] l = absurd (omega arith)
    go (suc n) i (b ∷ bs) l = ap (λ l. b ∷ l) (go n i bs (omega arith) ∙ ap (λ l. l ++ drop n bs) (sym (later n 0 b bs)))

-- the four bytes of a word come back
word_back : (a b c d : ℕ) → b < 2 ^ 8 → c < 2 ^ 8 → d < 2 ^ 8 → word_form (a * 16777216 + b * 65536 + c * 256 + d) ≡ a ∷ (b ∷ (c ∷ (d ∷ [])))
word_back a b c d lb lc ld = grind (arith, common_steps)

-- the sets of the entry fit their fields
pub record Fitting (s : State) : Type 0 where
  pub provided : s.provided < 2 ^ 32
  pub required : s.required < 2 ^ 32
  pub successors : s.successors < 2 ^ 8

state_fits : (ports count q : ℕ) (bs : List ℕ) (s : State) → Bytes bs → state_read ports count q bs ≡ Ok s → Fitting s
unfolding state_read
state_fits ports count q bs s b h =
    let a = if_ok (ltb (length bs) 9) _ _ s h in
    let t = (state_told ports count q _ s a.1).0 in
    rw (sym t) (record { provided = omega (arith, b 0, b 1, b 2, b 3); required = omega (arith, b 4, b 5, b 6, b 7); successors = b 8 })

state_front : (ports count q : ℕ) (bs : List ℕ) (s : State) → Bytes bs → state_read ports count q bs ≡ Ok s → bs ≡ state_form s ++ drop 9 bs
unfolding state_read
state_front ports count q bs s b h =
    let a = if_ok (ltb (length bs) 9) _ _ s h in
    let t = (state_told ports count q _ s a.1).0 in
    let nine = front 9 bs (ltb-false (length bs) 9 a.0) in
    let first = word_back (get_or bs 0 0) (get_or bs 1 0) (get_or bs 2 0) (get_or bs 3 0) (b 1) (b 2) (b 3) in
    let second = word_back (get_or bs 4 0) (get_or bs 5 0) (get_or bs 6 0) (get_or bs 7 0) (b 5) (b 6) (b 7) in
    rw (sym t) (nine ∙ sym (ap (λ x. (x ++ (word_form (word_at bs 4) ++ (get_or bs 8 0 ∷ []))) ++ drop 9 bs) first ∙ ap (λ y. (places bs 0 4 ++ (y ++ (get_or bs 8 0 ∷ []))) ++ drop 9 bs) second))

-- the form of a type, from its entries
abbrev pub kind_bytes : Kind → List ℕ
kind_bytes k = k.count * 2 ^ 4 ∷ flat_map state_form (take k.count k.states)

-- a type and its states, as they were read
record Made (k : Kind) : Type 0 where
  pub states : List State
  pub is : k ≡ kind_of states
  pub each : Each (λ _. Fitting) 0 states

kind_made : (ports : ℕ) (bs : List ℕ) (k : Kind) → Bytes bs → kind_read ports bs ≡ Ok k → Made k
unfolding kind_read
kind_made ports bs k b h =
    let a = then_ok (count_read bs) _ k h in
    let d = then_ok (many (state_read ports a.0) state_size 0 a.0 (drop 1 bs)) _ k a.2 in
    let e = many_each (state_read ports a.0) state_size Bytes (λ _. Fitting) bytes_drop (state_fits ports a.0) a.0 0 (drop 1 bs) d.0 (bytes_drop 1 bs b) d.1 in
    record { states = d.0; is = sym (ok_same _ k d.2); each = e.0 }

kind_front : (ports : ℕ) (bs : List ℕ) (k : Kind) → Bytes bs → kind_read ports bs ≡ Ok k → bs ≡ kind_bytes k ++ drop (kind_size k) bs
unfolding kind_read count_read
kind_front ports bs k b h =
    let a = then_ok (count_read bs) _ k h in
    let n = a.0 in
    let r = then_ok (many (state_read ports n) state_size 0 n (drop 1 bs)) _ k a.2 in
    let ss = r.0 in
    let c = if_ok (ltb (length bs) 1) _ (count_of (get_or bs 0 0)) n a.1 in
    let m = count_told (get_or bs 0 0) n c.1 in
    let one = front 1 bs (ltb-false (length bs) 1 c.0) in
    let len = (many_each (state_read ports n) state_size Bytes (λ _. Fitting) bytes_drop (state_fits ports n) n 0 (drop 1 bs) ss (bytes_drop 1 bs b) r.1).1 in
    let forms = many_forms (state_read ports n) state_size Bytes state_form bytes_drop (state_front ports n) n 0 (drop 1 bs) ss (bytes_drop 1 bs b) r.1 in
    let size : 1 + total state_size ss ≡ 1 + 9 * length ss = omega (arith, total_states ss) in
    let byte : get_or bs 0 0 ≡ length ss * 2 ^ 4 = omega (arith, m.0, m.1, len) in
    let rest : drop 1 bs ≡ flat_map state_form ss ++ drop (1 + 9 * length ss) bs = forms ∙ ap (λ l. flat_map state_form ss ++ l) (drop-drop (total state_size ss) 1 bs ∙ ap (λ i. drop i bs) size) in
    let whole : bs ≡ length ss * 2 ^ 4 ∷ (flat_map state_form ss ++ drop (1 + 9 * length ss) bs) = one ∙ (ap (λ x. x ∷ drop 1 bs) byte ∙ ap (λ l. length ss * 2 ^ 4 ∷ l) rest) in
    let kept : take (length ss) (ss ++ replicate (8 - length ss) blank_state) ≡ ss = take_at ss (replicate (8 - length ss) blank_state) (length ss) refl in
    rw (sym (ok_same _ k r.2), kept) whole

-- forms by number are the forms of the items that have these numbers
rows_joined : {X : Type 0} (form : ℕ → List ℕ) (of : X → List ℕ) (q : ℕ) (xs : List X) → Each (λ i x. form i ≡ of x) q xs → rows form q (length xs) ≡ flat_map of xs
unfolding rows
rows_joined form of q [] e = refl
rows_joined form of q (x ∷ xs) e = rw (e.0, rows_joined form of (suc q) xs e.1)

-- an entry's sets, unpacked and packed again
entry_back : (s : State) → Fitting s → record { provided = field 32 (has 32 s.provided); required = field 32 (has 32 s.required); successors = field 8 (has 8 s.successors) } ≡ s
entry_back s f = rw (field_has 32 s.provided f.provided, field_has 32 s.required f.required, field_has 8 s.successors f.successors)

kind_back : (u : Tables) (t : ℕ) (k : Kind) → kind_at u t ≡ k → Made k → kind_form (universe_of u) t ≡ kind_bytes k
kind_back u t k e made =
    let ss = made.states in
    let same : kind_at u t ≡ kind_of ss = e ∙ made.is in
    let kept : take (length ss) (ss ++ replicate (8 - length ss) blank_state) ≡ ss = take_at ss (replicate (8 - length ss) blank_state) (length ss) refl in
    let at : Each (λ q s. get_or (ss ++ replicate (8 - length ss) blank_state) q blank_state ≡ s) 0 ss = each_places blank_state (replicate (8 - length ss) blank_state) ss [] in
    let each : Each (λ q s. state_form (entry_of (universe_of u) t q) ≡ state_form s) 0 ss =
    each_both (λ q s is fits. ap state_form (ap (λ x. record { provided = field 32 (has 32 x.provided); required = field 32 (has 32 x.required); successors = field 8 (has 8 x.successors) }) (ap (λ k. get_or k.states q blank_state) same ∙ is) ∙ entry_back s fits)) 0 ss at made.each in
    let forms : rows (λ q. state_form (entry_of (universe_of u) t q)) 0 (length ss) ≡ flat_map state_form ss = rows_joined _ state_form 0 ss each in
    let count : (kind_at u t).count ≡ length ss = ap (λ k. k.count) same in
    ap (λ n. n * 2 ^ 4 ∷ rows (λ q. state_form (entry_of (universe_of u) t q)) 0 n) count
    ∙ (ap (λ l. length ss * 2 ^ 4 ∷ l) (forms ∙ ap (flat_map state_form) (sym kept)) ∙ sym (ap kind_bytes made.is))

-- the two bytes of the header come back
header_back : (a b : ℕ) → a < 2 ^ 8 → b < 2 ^ 8 → (types ports : ℕ) → types ≡ (a * 256 + b) / 2 ^ 11 → ports ≡ (a * 256 + b) / 2 ^ 5 % 2 ^ 6 → (a * 256 + b) % 2 ^ 5 ≡ 0
    → (header_bits types ports / 2 ^ 8 ≡ a) × (header_bits types ports % 2 ^ 8 ≡ b)
header_back a b la lb types ports t p z = grind (arith, common_steps)

-- a file that was read is the packed form of what was read
pub packed_back : (bs : List ℕ) (u : Tables) → Bytes bs → tables_read bs ≡ Ok u → bs ≡ packed_form (universe_of u)
packed_back bs u b e =
    let f = file_read bs u e in
    let h = f.header in
    let ks = f.kinds in
    let t = header_told (get_or bs 0 0 * 256 + get_or bs 1 0) h f.bits in
    let two = front 2 bs f.long in
    let b2 = bytes_drop 2 bs b in
    let made = many_each (λ _. kind_read h.ports) kind_size Bytes (λ _. Made) bytes_drop (λ _. kind_made h.ports) h.types 0 (drop 2 bs) ks b2 f.row in
    let forms = many_forms (λ _. kind_read h.ports) kind_size Bytes kind_bytes bytes_drop (λ _. kind_front h.ports) h.types 0 (drop 2 bs) ks b2 f.row in
    let none : drop (total kind_size ks) (drop 2 bs) ≡ [] = drop-drop (total kind_size ks) 2 bs ∙ drop_all (2 + total kind_size ks) bs (omega (arith, f.end)) in
    let row : drop 2 bs ≡ flat_map kind_bytes ks = forms ∙ (ap (λ l. flat_map kind_bytes ks ++ l) none ∙ append-nil (flat_map kind_bytes ks)) in
    let at : Each (λ t k. kind_at (tables_of h ks) t ≡ k) 0 ks = each_places blank_kind (replicate (16 - length ks) unused_kind) ks [] in
    let each = each_both (λ t k is m. kind_back (tables_of h ks) t k is m) 0 ks at made.0 in
    let kinds : rows (kind_form (universe_of (tables_of h ks))) 0 (length ks) ≡ flat_map kind_bytes ks = rows_joined _ kind_bytes 0 ks each in
    let head = header_back (get_or bs 0 0) (get_or bs 1 0) (b 0) (b 1) h.types h.ports (ap (λ h. h.types) t.0) (ap (λ h. h.ports) t.0) t.1 in
    let tail : rows (kind_form (universe_of (tables_of h ks))) 0 h.types ≡ drop 2 bs = ap (rows (kind_form (universe_of (tables_of h ks))) 0) (sym made.1) ∙ (kinds ∙ sym row) in
    rw (f.is, head.0, head.1, tail) two
