-- Calls that wait, one of each session: the one of a session, and the others.
use Rattle.std.proofs.Common.{◌≡◌, ◌≢◌, inl, inr, ◌<◌, ◌∷◌, [], ℕ, zero, suc, List, true, false, cond, refl, sym, ap, subst, ◌∙◌, arith, length, get_or, Bool}
use Rattle.std.specs.Prelude.{◌==◌, All, AllPairs, filter, not, remove}
use Rattle.std.proofs.lemmas.Bool.{eq-eqb, ne_eqb}
use Rattle.laws_lives.specs.Views.{IsAmong}
use Rattle.shore_sessions.specs.declared.waits.WaitingCall.{WaitingCall}
use Rattle.shore_sessions.proofs.Lists.{among_filtered, filter_all}

-- ---- elements by their indices

pub among_at : {A : Type 0} (xs : List A) (i : ℕ) (d : A) → i < length xs → IsAmong (get_or xs i d) xs
among_at [] i d less = absurd (omega arith)
among_at (x ∷ xs) zero d less = inl refl
among_at (x ∷ xs) (suc i) d less = inr (among_at xs i d (omega arith))

pub index_of : {A : Type 0} (x : A) (xs : List A) → IsAmong x xs → (i : ℕ) × (i < length xs) × ((d : A) → get_or xs i d ≡ x)
index_of x [] m = absurd m
index_of x (y ∷ xs) (inl same) = (0, omega arith, λ d. same)
index_of x (y ∷ xs) (inr later) = let rest = index_of x xs later in (suc rest.0, omega (arith, rest.1), rest.2)

pub all_among : {A : Type 0} (P : A → Type 0) (xs : List A) → ((x : A) → IsAmong x xs → P x) → All P xs
all_among P xs each k d less = each (get_or xs k d) (among_at xs k d less)

pub among_all : {A : Type 0} (P : A → Type 0) (xs : List A) → All P xs → (x : A) → IsAmong x xs → P x
among_all P xs all x m = let at = index_of x xs m in subst P (at.2 x) (all at.0 x at.1)

-- ---- calls

abbrev pub AreApart : List WaitingCall → Type 0
AreApart calls = AllPairs (λ (v w : WaitingCall). v.session ≢ w.session) calls

abbrev pub is_other : ℕ → WaitingCall → Bool
is_other session w = not (w.session == session)

is_other_if : (session : ℕ) (w : WaitingCall) → w.session ≢ session → is_other session w ≡ true
is_other_if session w other = ap not (ne_eqb w.session session other)

pub own_is_not_other : (session : ℕ) (w : WaitingCall) → w.session ≡ session → is_other session w ≡ false
own_is_not_other session w own = ap not (eq-eqb w.session session own)

pub apart_rest : (x : WaitingCall) (xs : List WaitingCall) → AreApart (x ∷ xs) → AreApart xs
apart_rest x xs apart i j d less within = apart (suc i) (suc j) d (omega arith) (omega arith)

pub first_apart : (x : WaitingCall) (xs : List WaitingCall) → AreApart (x ∷ xs) → (w : WaitingCall) → IsAmong w xs → x.session ≢ w.session
first_apart x xs apart w m = let at = index_of w xs m in λ same. apart 0 (suc at.0) w (omega arith) (omega (arith, at.1)) (same ∙ ap (λ (y : WaitingCall). y.session) (sym (at.2 w)))

-- the call of a session is one
pub one_of_session : (calls : List WaitingCall) → AreApart calls → (v w : WaitingCall) → IsAmong v calls → IsAmong w calls → v.session ≡ w.session → v ≡ w
one_of_session [] apart v w m n same = absurd m
one_of_session (x ∷ xs) apart v w (inl here) (inl there) same = sym here ∙ there
one_of_session (x ∷ xs) apart v w (inl here) (inr later) same = absurd (first_apart x xs apart w later (ap (λ (y : WaitingCall). y.session) here ∙ same))
one_of_session (x ∷ xs) apart v w (inr later) (inl there) same = absurd (first_apart x xs apart v later (ap (λ (y : WaitingCall). y.session) there ∙ sym same))
one_of_session (x ∷ xs) apart v w (inr m) (inr n) same = one_of_session xs (apart_rest x xs apart) v w m n same

-- without it the calls of the others are left
pub removed : (session : ℕ) (calls : List WaitingCall) → AreApart calls → (i : ℕ) → i < length calls → ((d : WaitingCall) → (get_or calls i d).session ≡ session)
    → remove calls i ≡ filter (is_other session) calls
removed session [] apart i less own = absurd (omega arith)
removed session (x ∷ xs) apart zero less own =
    sym (filter_all (is_other session) xs (λ w m. is_other_if session w (λ same. first_apart x xs apart w m (own x ∙ sym same))))
    ∙ ap (λ b. cond b (x ∷ filter (is_other session) xs) (filter (is_other session) xs)) (sym (own_is_not_other session x (own x)))
removed session (x ∷ xs) apart (suc i) less own =
    ap (λ ws. x ∷ ws) (removed session xs (apart_rest x xs apart) i (omega arith) own)
    ∙ ap (λ b. cond b (x ∷ filter (is_other session) xs) (filter (is_other session) xs)) (sym (is_other_if session x (λ same. first_apart x xs apart (get_or xs i x) (among_at xs i x (omega arith)) (same ∙ sym (own x)))))

-- none of them is the session's
pub others_free : (session : ℕ) (calls : List WaitingCall) → All (λ w. w.session ≢ session) (filter (is_other session) calls)
others_free session calls = all_among (λ (w : WaitingCall). w.session ≢ session) (filter (is_other session) calls)
    (λ w m same. false_true (sym (own_is_not_other session w same) ∙ (among_filtered (is_other session) w calls m).1))
  where
    false_true : false ≡ true → ⊥
    false_true clash = cc

-- all are left if there is none
pub none_removed : (session : ℕ) (calls : List WaitingCall) → All (λ w. w.session ≢ session) calls → calls ≡ filter (is_other session) calls
none_removed session calls free = sym (filter_all (is_other session) calls (λ w m. is_other_if session w (among_all (λ (y : WaitingCall). y.session ≢ session) calls free w m)))
