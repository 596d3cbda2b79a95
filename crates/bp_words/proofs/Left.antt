-- What each mask of the code leaves of a word.
use Rattle.std.proofs.Common.{◌≡◌, ℕ, ◌*◌, ◌/◌, ◌%◌, ◌<◌, bit_and, arith}
use Rattle.bp_words.specs.Fields.{packed}
use Rattle.bp_words.proofs.Masks.{masked, none_of, all_of, half_of, due_of, all_joins}

pub latched_mask : (n : ℕ) → n < 18446744073709551616 → bit_and n 1099512676351 ≡ packed (n % 1048576) 0 (n / 1099511627776 % 2) 0 0 0 0 0
latched_mask n small =
    let e = masked n 1048575 0 1 0 0 0 0 0 (omega arith) (omega arith) (omega arith) (omega arith) (omega arith) (omega arith) (omega arith) in
    let er = all_of (n % 1048576) (omega arith) in
    let ep = none_of (n / 1048576 % 1048576) in
    let ej = none_of (n / 35184372088832) in
    omega arith

pub over_mask : (n : ℕ) → n < 18446744073709551616 → bit_and n 15393162788863 ≡ packed (n % 1048576) (n / 1048576 % 1048576) (n / 1099511627776 % 2) 0 (n / 4398046511104 % 2) (n / 8796093022208 % 2) 0 0
over_mask n small =
    let e = masked n 1048575 1048575 1 0 1 1 0 0 (omega arith) (omega arith) (omega arith) (omega arith) (omega arith) (omega arith) (omega arith) in
    let er = all_of (n % 1048576) (omega arith) in
    let ep = all_of (n / 1048576 % 1048576) (omega arith) in
    let ej = none_of (n / 35184372088832) in
    omega arith

pub quiet_mask : (n : ℕ) → n < 18446744073709551616 → bit_and n 10995116277760 ≡ packed 0 0 0 (n / 2199023255552 % 2) 0 (n / 8796093022208 % 2) 0 0
quiet_mask n small =
    let e = masked n 0 0 0 1 0 1 0 0 (omega arith) (omega arith) (omega arith) (omega arith) (omega arith) (omega arith) (omega arith) in
    let er = none_of (n % 1048576) in
    let ep = none_of (n / 1048576 % 1048576) in
    let ej = none_of (n / 35184372088832) in
    omega arith

pub room_mask : (n : ℕ) → n < 18446744073709551616 → bit_and n 549756338176 ≡ packed (524288 * (n % 1048576 / 524288)) (524288 * (n / 1048576 % 1048576 / 524288)) 0 0 0 0 0 0
room_mask n small =
    let e = masked n 524288 524288 0 0 0 0 0 0 (omega arith) (omega arith) (omega arith) (omega arith) (omega arith) (omega arith) (omega arith) in
    let er = half_of (n % 1048576) (omega arith) in
    let ep = half_of (n / 1048576 % 1048576) (omega arith) in
    let ej = none_of (n / 35184372088832) in
    omega arith

pub readable_mask : (n : ℕ) → n < 18446744073709551616 → bit_and n 23639500521472 ≡ packed (524288 * (n % 1048576 / 524288)) (524288 * (n / 1048576 % 1048576 / 524288)) (n / 1099511627776 % 2) 0 (n / 4398046511104 % 2) 0 (n / 17592186044416 % 2) 0
readable_mask n small =
    let e = masked n 524288 524288 1 0 1 0 1 0 (omega arith) (omega arith) (omega arith) (omega arith) (omega arith) (omega arith) (omega arith) in
    let er = half_of (n % 1048576) (omega arith) in
    let ep = half_of (n / 1048576 % 1048576) (omega arith) in
    let ej = none_of (n / 35184372088832) in
    omega arith

pub readable_at_once_mask : (n : ℕ) → n < 18446744073709551616 → bit_and n 18445641813303230464 ≡ packed (524288 * (n % 1048576 / 524288)) (524288 * (n / 1048576 % 1048576 / 524288)) (n / 1099511627776 % 2) 0 (n / 4398046511104 % 2) 0 (n / 17592186044416 % 2) (32 * (n / 35184372088832 / 32))
readable_at_once_mask n small =
    let e = masked n 524288 524288 1 0 1 0 1 524256 (omega arith) (omega arith) (omega arith) (omega arith) (omega arith) (omega arith) (omega arith) in
    let er = half_of (n % 1048576) (omega arith) in
    let ep = half_of (n / 1048576 % 1048576) (omega arith) in
    let ej = due_of (n / 35184372088832) (omega arith) in
    omega arith

pub writable_at_once_mask : (n : ℕ) → n < 18446744073709551616 → bit_and n 18445641263547940863 ≡ packed (n % 1048576) 0 (n / 1099511627776 % 2) 0 (n / 4398046511104 % 2) 0 (n / 17592186044416 % 2) (32 * (n / 35184372088832 / 32))
writable_at_once_mask n small =
    let e = masked n 1048575 0 1 0 1 0 1 524256 (omega arith) (omega arith) (omega arith) (omega arith) (omega arith) (omega arith) (omega arith) in
    let er = all_of (n % 1048576) (omega arith) in
    let ep = none_of (n / 1048576 % 1048576) in
    let ej = due_of (n / 35184372088832) (omega arith) in
    omega arith

pub pinnable_mask : (n : ℕ) → n < 18446744073709551616 → bit_and n 4947802849280 ≡ packed (524288 * (n % 1048576 / 524288)) (524288 * (n / 1048576 % 1048576 / 524288)) 0 0 (n / 4398046511104 % 2) 0 0 0
pinnable_mask n small =
    let e = masked n 524288 524288 0 0 1 0 0 0 (omega arith) (omega arith) (omega arith) (omega arith) (omega arith) (omega arith) (omega arith) in
    let er = half_of (n % 1048576) (omega arith) in
    let ep = half_of (n / 1048576 % 1048576) (omega arith) in
    let ej = none_of (n / 35184372088832) in
    omega arith

pub awaited_mask : (n : ℕ) → n < 18446744073709551616 → bit_and n 3298535931903 ≡ packed (n % 1048576) 0 (n / 1099511627776 % 2) (n / 2199023255552 % 2) 0 0 0 0
awaited_mask n small =
    let e = masked n 1048575 0 1 1 0 0 0 0 (omega arith) (omega arith) (omega arith) (omega arith) (omega arith) (omega arith) (omega arith) in
    let er = all_of (n % 1048576) (omega arith) in
    let ep = none_of (n / 1048576 % 1048576) in
    let ej = none_of (n / 35184372088832) in
    omega arith

pub due_mask : (n : ℕ) → n < 18446744073709551616 → bit_and n 18445618173802708992 ≡ packed 0 0 0 0 0 0 0 (32 * (n / 35184372088832 / 32))
due_mask n small =
    let e = masked n 0 0 0 0 0 0 0 524256 (omega arith) (omega arith) (omega arith) (omega arith) (omega arith) (omega arith) (omega arith) in
    let er = none_of (n % 1048576) in
    let ep = none_of (n / 1048576 % 1048576) in
    let ej = due_of (n / 35184372088832) (omega arith) in
    omega arith

pub read_free_mask : (n : ℕ) → n < 18446744073709551616 → bit_and n 18691697672192 ≡ packed 0 0 (n / 1099511627776 % 2) 0 0 0 (n / 17592186044416 % 2) 0
read_free_mask n small =
    let e = masked n 0 0 1 0 0 0 1 0 (omega arith) (omega arith) (omega arith) (omega arith) (omega arith) (omega arith) (omega arith) in
    let er = none_of (n % 1048576) in
    let ep = none_of (n / 1048576 % 1048576) in
    let ej = none_of (n / 35184372088832) in
    omega arith

pub write_free_mask : (n : ℕ) → n < 18446744073709551616 → bit_and n 18691698720767 ≡ packed (n % 1048576) 0 (n / 1099511627776 % 2) 0 0 0 (n / 17592186044416 % 2) 0
write_free_mask n small =
    let e = masked n 1048575 0 1 0 0 0 1 0 (omega arith) (omega arith) (omega arith) (omega arith) (omega arith) (omega arith) (omega arith) in
    let er = all_of (n % 1048576) (omega arith) in
    let ep = none_of (n / 1048576 % 1048576) in
    let ej = none_of (n / 35184372088832) in
    omega arith

pub used_mask : (n : ℕ) → n < 18446744073709551616 → bit_and n 2199023255551 ≡ packed (n % 1048576) (n / 1048576 % 1048576) (n / 1099511627776 % 2) 0 0 0 0 0
used_mask n small =
    let e = masked n 1048575 1048575 1 0 0 0 0 0 (omega arith) (omega arith) (omega arith) (omega arith) (omega arith) (omega arith) (omega arith) in
    let er = all_of (n % 1048576) (omega arith) in
    let ep = all_of (n / 1048576 % 1048576) (omega arith) in
    let ej = none_of (n / 35184372088832) in
    omega arith

pub unused_mask : (n : ℕ) → n < 18446744073709551616 → bit_and n 6597069766655 ≡ packed (n % 1048576) (n / 1048576 % 1048576) (n / 1099511627776 % 2) 0 (n / 4398046511104 % 2) 0 0 0
unused_mask n small =
    let e = masked n 1048575 1048575 1 0 1 0 0 0 (omega arith) (omega arith) (omega arith) (omega arith) (omega arith) (omega arith) (omega arith) in
    let er = all_of (n % 1048576) (omega arith) in
    let ep = all_of (n / 1048576 % 1048576) (omega arith) in
    let ej = none_of (n / 35184372088832) in
    omega arith

pub not_waited_mask : (n : ℕ) → n < 18446744073709551616 → bit_and n 18446724282500251647 ≡ packed (n % 1048576) (n / 1048576 % 1048576) (n / 1099511627776 % 2) 0 (n / 4398046511104 % 2) (n / 8796093022208 % 2) 0 (n / 35184372088832)
not_waited_mask n small =
    let e = masked n 1048575 1048575 1 0 1 1 0 524287 (omega arith) (omega arith) (omega arith) (omega arith) (omega arith) (omega arith) (omega arith) in
    let er = all_of (n % 1048576) (omega arith) in
    let ep = all_of (n / 1048576 % 1048576) (omega arith) in
    let ej = all_joins (n / 35184372088832) (omega arith) in
    omega arith

pub not_closed_mask : (n : ℕ) → n < 18446744073709551616 → bit_and n 18446726481523507199 ≡ packed (n % 1048576) (n / 1048576 % 1048576) (n / 1099511627776 % 2) (n / 2199023255552 % 2) (n / 4398046511104 % 2) (n / 8796093022208 % 2) 0 (n / 35184372088832)
not_closed_mask n small =
    let e = masked n 1048575 1048575 1 1 1 1 0 524287 (omega arith) (omega arith) (omega arith) (omega arith) (omega arith) (omega arith) (omega arith) in
    let er = all_of (n % 1048576) (omega arith) in
    let ep = all_of (n / 1048576 % 1048576) (omega arith) in
    let ej = all_joins (n / 35184372088832) (omega arith) in
    omega arith

pub not_joined_mask : (n : ℕ) → n < 18446744073709551616 → bit_and n 35184372088831 ≡ packed (n % 1048576) (n / 1048576 % 1048576) (n / 1099511627776 % 2) (n / 2199023255552 % 2) (n / 4398046511104 % 2) (n / 8796093022208 % 2) (n / 17592186044416 % 2) 0
not_joined_mask n small =
    let e = masked n 1048575 1048575 1 1 1 1 1 0 (omega arith) (omega arith) (omega arith) (omega arith) (omega arith) (omega arith) (omega arith) in
    let er = all_of (n % 1048576) (omega arith) in
    let ep = all_of (n / 1048576 % 1048576) (omega arith) in
    let ej = none_of (n / 35184372088832) in
    omega arith

pub not_pass_mask : (n : ℕ) → n < 18446744073709551616 → bit_and n 21990232555519 ≡ packed (n % 1048576) (n / 1048576 % 1048576) (n / 1099511627776 % 2) (n / 2199023255552 % 2) 0 0 (n / 17592186044416 % 2) 0
not_pass_mask n small =
    let e = masked n 1048575 1048575 1 1 0 0 1 0 (omega arith) (omega arith) (omega arith) (omega arith) (omega arith) (omega arith) (omega arith) in
    let er = all_of (n % 1048576) (omega arith) in
    let ep = all_of (n / 1048576 % 1048576) (omega arith) in
    let ej = none_of (n / 35184372088832) in
    omega arith

pub not_stays_mask : (n : ℕ) → n < 18446744073709551616 → bit_and n 18446735277616529407 ≡ packed (n % 1048576) (n / 1048576 % 1048576) (n / 1099511627776 % 2) (n / 2199023255552 % 2) (n / 4398046511104 % 2) 0 (n / 17592186044416 % 2) (n / 35184372088832)
not_stays_mask n small =
    let e = masked n 1048575 1048575 1 1 1 0 1 524287 (omega arith) (omega arith) (omega arith) (omega arith) (omega arith) (omega arith) (omega arith) in
    let er = all_of (n % 1048576) (omega arith) in
    let ep = all_of (n / 1048576 % 1048576) (omega arith) in
    let ej = all_joins (n / 35184372088832) (omega arith) in
    omega arith
