-- What is read of the front of a content is what is read of the content.
use Rattle.std.proofs.Common.{◌≡◌, ◌≢◌, ◌+◌, ◌≤◌, ◌++◌, ◌^◌, ◌⊎◌, inl, inr, min, ℕ, Bool, true, false, List, length, take, drop, Result, Ok, Err, refl, sym, ap, ◌∙◌, arith}
use Rattle.std.proofs.lemmas.List.{take-append-drop, take_all}
use Rattle.std.proofs.lemmas.Bool.{false≢true}
use Rattle.exr_attributes.specs.declared.fault.HeaderFault.{HeaderFault}
use Rattle.exr_attributes.specs.declared.fault.HeaderFault.TheVariants.{Truncated}
use Rattle.exr_header.specs.Head.{Head, head_of}
use Rattle.exr_header.specs.Settled.{IsCutShort, IsSettled}
use Rattle.exr_opening.specs.Opening.{IsFront, is_end}

-- bytes that settle it
settled_by : (bytes content : List ℕ) → bytes ≡ take (length bytes) content → IsSettled bytes → head_of content ≡ head_of bytes
settled_by bytes content first settled =
    let parts : content ≡ bytes ++ drop (length bytes) content = sym (take-append-drop (length bytes) content) ∙ ap (λ b. b ++ drop (length bytes) content) (sym first) in
    ap head_of parts ∙ settled (drop (length bytes) content)

-- all bytes
all_of : (bytes content : List ℕ) → bytes ≡ take (length bytes) content → length bytes ≡ min (length content) (2 ^ 24 + 1) → length bytes ≤ 2 ^ 24 → head_of content ≡ head_of bytes
all_of bytes content first all short =
    let whole : length content ≤ length bytes = omega arith in
    ap head_of (sym (first ∙ take_all (length bytes) content whole))

-- whether a reading is a fault that the bytes end
ends : Result (Head × ℕ) HeaderFault → Bool
ends (Ok found) = false
ends (Err fault) = is_end fault

-- where no more count, or they do not end too soon
pub found_so : (bytes content : List ℕ) (more : Bool) → IsFront bytes more content → (IsCutShort bytes ⊎ IsSettled bytes) → (more ≡ true → head_of bytes ≢ Err (Truncated (length bytes))) → head_of content ≡ head_of bytes
found_so bytes content more front (inr settled) other = settled_by bytes content front.first settled
found_so bytes content true front (inl cut) other = absurd (other refl cut.fault)
found_so bytes content false front (inl cut) other = all_of bytes content front.first (front.all refl) cut.short

ok_is_no_end : (bytes : List ℕ) (found : Head × ℕ) → head_of bytes ≡ Ok found → head_of bytes ≢ Err (Truncated (length bytes))
unfolding ends
ok_is_no_end bytes found e f = false≢true (ap ends (sym e ∙ f))

other_is_no_end : (bytes : List ℕ) (fault : HeaderFault) → is_end fault ≡ false → head_of bytes ≡ Err fault → head_of bytes ≢ Err (Truncated (length bytes))
unfolding ends
other_is_no_end bytes fault other e f = false≢true (sym other ∙ ap ends (sym e ∙ f))

-- a head that was found
pub ok_found : (bytes content : List ℕ) (more : Bool) (found : Head × ℕ) → IsFront bytes more content → (IsCutShort bytes ⊎ IsSettled bytes) → head_of bytes ≡ Ok found → head_of content ≡ Ok found
ok_found bytes content more found front settled e = found_so bytes content more front settled (λ _. ok_is_no_end bytes found e) ∙ e

-- a fault that was found
pub fault_found : (bytes content : List ℕ) (more : Bool) (fault : HeaderFault) → IsFront bytes more content → (IsCutShort bytes ⊎ IsSettled bytes) → (more ≡ true → is_end fault ≡ false) → head_of bytes ≡ Err fault → head_of content ≡ Err fault
fault_found bytes content more fault front settled other e = found_so bytes content more front settled (λ is. other_is_no_end bytes fault (other is) e) ∙ e
