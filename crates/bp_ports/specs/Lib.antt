-- What a port says of itself, and which files are page files.
pub mod Ports
pub mod Files
-- Each n-th page of a file.
pub mod Stripes
-- What is read and what is written as a page file of version 1 is written anew in version 2, and
-- what stands where that fails.
pub mod WholeFiles
pub mod MigrateFaults
