-- What is promised: the limits of a file, the bytes of a changed image, the numbers of the
-- refusals, and the bytes of a page in its file.
pub mod Limits
pub mod Patched
pub mod Refusals
pub mod Slots
pub mod Explained
