-- Listing: what the list program prints for a machine file.
pub mod Listing
